-- The net of the visible graph has a node and an arc for each number.
use Rattle.std.proofs.Common.{◌≡◌, ◌≤◌, length, sym, ap, subst, ◌∙◌, arith}
use Rattle.std.proofs.lemmas.List.{length-map}
use Rattle.graph_defs.specs.declared.net.Net.{Net}
use Rattle.graph_defs.specs.declared.net.TheConstants.{ARC_LIMIT}
use Rattle.graph_state.specs.State.{GraphState}
use Rattle.hide_restore.specs.declared.shown.Shown.{Shown}
use Rattle.hide_restore.specs.Net.{node_numbers, edge_numbers, arc_of, shown_net}
use Rattle.kept_answers.specs.Shown.{IsShown}

net_nodes : (g : GraphState) → (shown_net g).n ≡ length (node_numbers g)
unfolding shown_net
net_nodes g = λ _. length (node_numbers g)

net_arcs : (g : GraphState) → length (shown_net g).arcs ≡ length (edge_numbers g)
unfolding shown_net
net_arcs g = length-map (edge_numbers g) (arc_of g)

module _ (g : GraphState) (shown : Shown) (is : IsShown g shown) where
  pub nodes_long : length (node_numbers g) ≡ shown.net.n
  nodes_long = sym (ap (λ (net : Net). net.n) is.net ∙ net_nodes g)

  pub edges_long : length (edge_numbers g) ≡ length shown.net.arcs
  edges_long = sym (ap (λ (net : Net). length net.arcs) is.net ∙ net_arcs g)

  pub nodes_few : length (node_numbers g) ≤ ARC_LIMIT
  nodes_few = let long = nodes_long in let few = is.valid.limits.nodes in omega (arith, long, few)

  pub edges_few : length (edge_numbers g) ≤ ARC_LIMIT
  edges_few = subst (λ n. n ≤ ARC_LIMIT) (sym edges_long) is.valid.limits.arcs
