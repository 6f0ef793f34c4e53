-- A graph that is cleared: the cells and the lists say what the state says.
use Rattle.std.proofs.Common.{◌≡◌, ℕ, [], length, Option, Some, None, refl, sym, ap, subst, ◌∙◌}
use Rattle.std.proofs.Common as list
use Rattle.std.specs.FinMap as map
use Rattle.graph_state.specs.declared.name.ListName.{ListName}
use Rattle.graph_state.specs.declared.name.ListName.TheVariants.{Nodes, Edges, Out, In}
use Rattle.graph_state.specs.declared.name.Element.TheVariants.{Node, Edge, End}
use Rattle.graph_state.specs.State.{GraphState, source, out_list, in_list}
use Rattle.graph_state.specs.Names.{Has, list_of}
use Rattle.graph_state.specs.Edits.{cleared}
use Rattle.graph_state.proofs.Has.{none_has, has_none, has_map}
use Rattle.graph_state.proofs.Cleared.{lists_empty, nothing_live, formed_cleared}
use Rattle.graph_lists.specs.Named.{Lists}
use Rattle.graph_core.specs.declared.cell.Heads.{Heads}
use Rattle.graph_core.specs.declared.cell.NodeCell.{NodeCell}
use Rattle.graph_core.specs.declared.cell.EdgeCell.{EdgeCell}
use Rattle.graph_core.specs.Kept.{NodeCells, EdgeCells, IsNode, IsEdge, IsKept}

module _ (s : GraphState) (t : Lists) (top : Option Heads) (p : NodeCells) (q : EdgeCells) (k : IsKept s t top p q) (none : s.nodes ≡ []) where
  no_edge : (e : ℕ) → Has e s.edges → ⊥
  no_edge e i = has_none s.nodes none (source s e) (k.formed.ends e i).0

  all_empty : (l : ListName) → list_of s l ≡ []
  all_empty Nodes = ap (list.map Node) none
  all_empty Edges = ap (list.map Edge) (none_has s.edges no_edge)
  all_empty (Out v) = ap (list.map End) (none_has (out_list s v) (λ d i. no_edge d.edge (k.formed.homes (Out v) (End d) (has_map End d (out_list s v) i)).0))
  all_empty (In v) = ap (list.map End) (none_has (in_list s v) (λ d i. no_edge d.edge (k.formed.homes (In v) (End d) (has_map End d (in_list s v) i)).0))

  cleared_cell : (v : ℕ) (o : Option NodeCell) → IsNode s v o → IsNode (cleared s) v o
  unfolding cleared
  cleared_cell v None i = λ j. j
  cleared_cell v (Some c) i = absurd (has_none s.nodes none v i.listed)

  cleared_edge : (e : ℕ) (o : Option EdgeCell) → IsEdge s e o → IsEdge (cleared s) e o
  unfolding cleared
  cleared_edge e None i = λ j. j
  cleared_edge e (Some c) i = absurd (no_edge e i.listed)

  pub kept_cleared : IsKept (cleared s) t top p q
  unfolding cleared
  kept_cleared = record {
    heads = k.heads;
    hooks = k.hooks;
    lists = λ l. k.lists l ∙ all_empty l ∙ sym (lists_empty s l);
    shown = λ x i. absurd (nothing_live s x i);
    loose = k.loose;
    nodes = λ v. cleared_cell v (map.get p v) (k.nodes v);
    edges = λ e. cleared_edge e (map.get q e) (k.edges e);
    headed = λ e. refl;
    few_heads = k.few_heads;
    few_members = k.few_members;
    counted = (k.counted.0 ∙ ap length none, k.counted.1 ∙ ap length (none_has s.edges no_edge));
    formed = formed_cleared s k.formed.made k.formed.types;
    rise = tt;
  }
