-- A state without nodes and edges is well-formed.
use Rattle.std.proofs.Common.{◌≡◌, ℕ, ◌≤◌, List, [], ◌∷◌, unwrap_or, refl, sym, ap, subst, ◌∙◌, arith}
use Rattle.std.proofs.Common as list
use Rattle.std.specs.Ordering.{nat_cmp}
use Rattle.std.specs.FinMap as map
use Rattle.std.specs.FinMap.{get-empty}
use Rattle.std.specs.FinSet.{contains-empty}
use Rattle.graph_defs.specs.declared.dart.Dart.{Dart}
use Rattle.graph_state.specs.declared.name.ListName.{ListName}
use Rattle.graph_state.specs.declared.name.ListName.TheVariants.{Nodes, Edges, Out, In}
use Rattle.graph_state.specs.declared.name.Element.{Element}
use Rattle.graph_state.specs.declared.name.Element.TheVariants.{Node, Edge, End}
use Rattle.graph_state.specs.State.{GraphState}
use Rattle.graph_state.specs.Names.{IsOnce, list_of, IsLive}
use Rattle.graph_state.specs.Formed.{IsFormed, IsKeptType}
use Rattle.graph_state.specs.Edits.{without_edge, without_edges, without_node, has_end, cleared}
use Rattle.graph_state.proofs.Has.{none_some, not_both, has_none}

module _ (s : GraphState) where
  no_darts : (v : ℕ) → unwrap_or (map.get (map.empty {X = List Dart} {R = nat_cmp}) v) [] ≡ []
  no_darts v = ap (λ o. unwrap_or o []) (get-empty nat_cmp v)

  pub lists_empty : (l : ListName) → list_of (cleared s) l ≡ []
  unfolding cleared
  lists_empty Nodes = refl
  lists_empty Edges = refl
  lists_empty (Out v) = ap (list.map End) (no_darts v)
  lists_empty (In v) = ap (list.map End) (no_darts v)

  pub nothing_live : (x : Element) → IsLive (cleared s) x → ⊥
  unfolding cleared
  nothing_live (Node v) i = i
  nothing_live (Edge e) i = i
  nothing_live (End d) i = i

  pub formed_cleared : (s.made_nodes ≤ 16777215) × (s.made_edges ≤ 16777215) → IsKeptType s.node_type × IsKeptType s.edge_type → IsFormed (cleared s)
  unfolding cleared
  formed_cleared made types = record {
    homes = λ l x i. absurd (has_none (list_of (cleared s) l) (lists_empty l) x i);
    housed = λ x i. absurd (nothing_live x i);
    once = λ l. subst IsOnce (sym (lists_empty l)) tt;
    ends = λ e i. absurd i;
    reversals = λ e f r. absurd (none_some (sym (get-empty nat_cmp e) ∙ r));
    hidden_nodes = λ v h. absurd (not_both h (contains-empty nat_cmp v));
    hidden_edges = λ e h. absurd (not_both h (contains-empty nat_cmp e));
    given_nodes = λ v i. absurd i;
    given_edges = λ e i. absurd i;
    node_labels = λ v l g. absurd (none_some (sym (get-empty nat_cmp v) ∙ g));
    edge_labels = λ e l g. absurd (none_some (sym (get-empty nat_cmp e) ∙ g));
    few = (omega arith, omega arith);
    made = made;
    types = types;
  }

-- what goes before all goes makes no difference
cleared_edges : (es : List ℕ) (s : GraphState) → cleared (without_edges es s) ≡ cleared s
unfolding without_edges without_edge cleared
cleared_edges [] s = refl
cleared_edges (e ∷ es) s = cleared_edges es (without_edge e s)

pub cleared_node : (v : ℕ) (s : GraphState) → cleared (without_node v s) ≡ cleared s
unfolding without_node cleared
cleared_node v s = cleared_edges (list.filter (has_end s v) s.edges) s
