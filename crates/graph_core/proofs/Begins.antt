-- A graph without nodes and edges.
use Rattle.std.proofs.Common.{◌≡◌, ℕ, ◌≤◌, Bool, List, [], None, option_map, refl, sym, ap, subst, ◌∙◌, arith}
use Rattle.std.specs.Ordering.{nat_cmp}
use Rattle.std.specs.FinMap as map
use Rattle.std.specs.FinMap.{get-empty, len-empty}
use Rattle.graph_state.specs.declared.name.ListName.{ListName}
use Rattle.graph_state.specs.declared.name.ListName.TheVariants.{Nodes, Edges, Out, In}
use Rattle.graph_state.specs.declared.name.Element.{Element}
use Rattle.graph_state.specs.declared.name.Element.TheVariants.{Node, Edge, End}
use Rattle.graph_state.specs.State.{GraphState, new_graph}
use Rattle.graph_state.specs.Names.{list_of}
use Rattle.graph_state.specs.Names as names
use Rattle.graph_state.specs.Formed.{IsFormed, IsKeptType}
use Rattle.graph_state.specs.Edits.{cleared}
use Rattle.graph_state.proofs.Cleared.{lists_empty, nothing_live, formed_cleared}
use Rattle.graph_lists.specs.Named.{Lists, head_at, hook_at, list_at, nothing_named}
use Rattle.graph_core.specs.declared.cell.NodeCell.{NodeCell}
use Rattle.graph_core.specs.declared.cell.EdgeCell.{EdgeCell}
use Rattle.graph_core.specs.Kept.{NodeCells, EdgeCells, heads_of, hook_of, end_hook, IsNode, IsEdge, IsKept}

module _ (directed : Bool) (node_type edge_type : List ℕ) (made_nodes made_edges : ℕ) where
  abbrev none : GraphState
  none = new_graph directed node_type edge_type made_nodes made_edges

  none_cleared : cleared none ≡ none
  unfolding new_graph cleared
  none_cleared = refl

  no_lists : (l : ListName) → list_of none l ≡ []
  no_lists l = subst (λ s. list_of s l ≡ []) none_cleared (lists_empty none l)

  none_live : (x : Element) → names.IsLive none x → ⊥
  none_live x i = nothing_live none x (subst (λ s. names.IsLive s x) (sym none_cleared) i)

  no_heads : (l : ListName) → None ≡ heads_of None map.empty l
  no_heads Nodes = refl
  no_heads Edges = refl
  no_heads (Out v) = sym (ap (option_map (λ (c : NodeCell). c.outs)) (get-empty nat_cmp v))
  no_heads (In v) = sym (ap (option_map (λ (c : NodeCell). c.ins)) (get-empty nat_cmp v))

  no_hooks : (x : Element) → None ≡ hook_of map.empty map.empty x
  no_hooks (Node v) = sym (ap (option_map (λ (c : NodeCell). c.hook)) (get-empty nat_cmp v))
  no_hooks (Edge e) = sym (ap (option_map (λ (c : EdgeCell). c.hook)) (get-empty nat_cmp e))
  no_hooks (End d) = sym (ap (option_map (end_hook d.back)) (get-empty nat_cmp d.edge))

  pub kept_none : (t : Lists) (p : NodeCells) (q : EdgeCells) → t.named ≡ nothing_named → (t.heads ≡ 0) × (t.members ≡ 0) → p ≡ map.empty → q ≡ map.empty → (made_nodes ≤ 16777215) × (made_edges ≤ 16777215) → IsKeptType node_type × IsKeptType edge_type → IsKept none t None p q
  unfolding new_graph
  kept_none t p q named none_there pe qe made types =
      let plen : map.len p ≡ 0 = ap map.len pe ∙ len-empty nat_cmp NodeCell in
      let qlen : map.len q ≡ 0 = ap map.len qe ∙ len-empty nat_cmp EdgeCell in
      record {
        heads = λ l. ap (λ n. head_at n l) named ∙ no_heads l ∙ ap (λ p. heads_of None p l) (sym pe);
        hooks = λ x. ap (λ n. hook_at n x) named ∙ no_hooks x ∙ (λ i. hook_of (sym pe i) (sym qe i) x);
        lists = λ l. ap (λ n. list_at n l) named ∙ sym (no_lists l);
        shown = λ x i. absurd (none_live x i);
        loose = ap (λ n. n.loose) named;
        nodes = λ v. subst (IsNode none v) (sym (ap (λ p. map.get p v) pe ∙ get-empty nat_cmp v)) (λ i. i);
        edges = λ e. subst (IsEdge none e) (sym (ap (λ q. map.get q e) qe ∙ get-empty nat_cmp e)) (λ i. i);
        headed = λ _. refl;
        few_heads = omega (arith, none_there.0);
        few_members = omega (arith, none_there.1);
        counted = (plen, qlen);
        formed = subst IsFormed none_cleared (formed_cleared none made types);
        rise = tt;
      }
