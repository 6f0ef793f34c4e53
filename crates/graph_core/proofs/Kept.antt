-- What the cells and the lists of a graph say of its state.
use Rattle.std.proofs.Common.{◌≡◌, ℕ, ◌+◌, ◌*◌, ◌≤◌, true, false, Option, Some, None, option_map, unwrap_or, sym, ap, subst, ◌∙◌, inl, inr}
use Rattle.std.specs.FinMap as map
use Rattle.graph_state.specs.declared.name.ListName.{ListName}
use Rattle.graph_state.specs.declared.name.ListName.TheVariants.{Out, In}
use Rattle.graph_state.specs.declared.name.Element.{Element}
use Rattle.graph_state.specs.declared.name.Element.TheVariants.{Node, Edge, End}
use Rattle.graph_state.specs.State.{GraphState, front, back, ends_of}
use Rattle.graph_state.specs.Names.{Has, IsLive, home}
use Rattle.graph_state.specs.Formed.{IsFormed}
use Rattle.graph_state.proofs.Has.{some_or_none}
use Rattle.graph_lists.specs.Named.{Lists, head_at, hook_at, list_at, shows_at}
use Rattle.graph_core.specs.declared.cell.Heads.{Heads}
use Rattle.graph_core.specs.declared.cell.NodeCell.{NodeCell}
use Rattle.graph_core.specs.declared.cell.EdgeCell.{EdgeCell}
use Rattle.graph_core.specs.Kept.{NodeCells, EdgeCells, end_hook, IsNodeCell, IsEdgeCell, IsNode, IsEdge, top_heads, IsKept}

module _ (s : GraphState) (t : Lists) (top : Option Heads) (p : NodeCells) (q : EdgeCells) (k : IsKept s t top p q) where
  pub node_cell : (v : ℕ) (c : NodeCell) → map.get p v ≡ Some c → IsNodeCell s v c
  node_cell v c e = subst (IsNode s v) e (k.nodes v)

  pub no_node : (v : ℕ) → map.get p v ≡ None → Has v s.nodes → ⊥
  no_node v e = subst (IsNode s v) e (k.nodes v)

  pub has_node : (v : ℕ) → Has v s.nodes → (c : NodeCell) × (map.get p v ≡ Some c)
  has_node v i = elim (some_or_none (map.get p v)) [ inl n ↦ absurd (no_node v n i) | inr c ↦ c ]

  pub edge_cell : (e : ℕ) (c : EdgeCell) → map.get q e ≡ Some c → IsEdgeCell s e c
  edge_cell e c i = subst (IsEdge s e) i (k.edges e)

  pub no_edge : (e : ℕ) → map.get q e ≡ None → Has e s.edges → ⊥
  no_edge e i = subst (IsEdge s e) i (k.edges e)

  pub has_edge : (e : ℕ) → Has e s.edges → (c : EdgeCell) × (map.get q e ≡ Some c)
  has_edge e i = elim (some_or_none (map.get q e)) [ inl n ↦ absurd (no_edge e n i) | inr c ↦ c ]

  -- the tokens in a cell are those of its lists and elements
  pub node_hook : (v : ℕ) (c : NodeCell) → map.get p v ≡ Some c → hook_at t.named (Node v) ≡ Some c.hook
  node_hook v c e = k.hooks (Node v) ∙ ap (option_map (λ (c : NodeCell). c.hook)) e

  pub edge_hook : (e : ℕ) (c : EdgeCell) → map.get q e ≡ Some c → hook_at t.named (Edge e) ≡ Some c.hook
  edge_hook e c i = k.hooks (Edge e) ∙ ap (option_map (λ (c : EdgeCell). c.hook)) i

  pub front_hook : (e : ℕ) (c : EdgeCell) → map.get q e ≡ Some c → hook_at t.named (End (front e)) ≡ Some c.front
  front_hook e c i = k.hooks (End (front e)) ∙ ap (option_map (end_hook false)) i

  pub back_hook : (e : ℕ) (c : EdgeCell) → map.get q e ≡ Some c → hook_at t.named (End (back e)) ≡ Some c.back
  back_hook e c i = k.hooks (End (back e)) ∙ ap (option_map (end_hook true)) i

  pub out_head : (v : ℕ) (c : NodeCell) → map.get p v ≡ Some c → head_at t.named (Out v) ≡ Some c.outs
  out_head v c e = k.heads (Out v) ∙ ap (option_map (λ (c : NodeCell). c.outs)) e

  pub in_head : (v : ℕ) (c : NodeCell) → map.get p v ≡ Some c → head_at t.named (In v) ≡ Some c.ins
  in_head v c e = k.heads (In v) ∙ ap (option_map (λ (c : NodeCell). c.ins)) e

  -- what is listed stands in its list
  pub stands : (x : Element) → IsLive s x → Has x (list_at t.named (home s x))
  stands x i = subst (Has x) (sym (k.lists (home s x))) (k.formed.housed x i)

  pub stands_in : (x : Element) → IsLive s x → (l : ListName) × Has x (list_at t.named l)
  stands_in x i = (home s x, stands x i)

  pub is_live : (l : ListName) (x : Element) → Has x (list_at t.named l) → IsLive s x
  is_live l x i = (k.formed.homes l x (subst (Has x) (k.lists l) i)).0

  -- the ends in the cell are those of the state
  pub cell_ends : (e : ℕ) (c : EdgeCell) → map.get q e ≡ Some c → ends_of s e ≡ (c.from, c.to)
  cell_ends e c i = ap (λ o. unwrap_or o (0, 0)) (edge_cell e c i).ends

  pub nodes_few : map.len p ≤ 100000
  nodes_few = subst (λ n. n ≤ 100000) (sym k.counted.0) k.formed.few.0

  pub edges_few : map.len q ≤ 400000
  edges_few = subst (λ n. n ≤ 400000) (sym k.counted.1) k.formed.few.1

  -- lists that have only more room, and pools
  pub kept_room : (u : Lists) (p' : NodeCells) (q' : EdgeCells) → u.named ≡ t.named → (u.heads ≡ t.heads) × (u.members ≡ t.members) → p' ≡ p → q' ≡ q → IsKept s u top p' q'
  kept_room u p' q' named same pe qe =
      subst (λ p'. IsKept s u top p' q') (sym pe) (subst (λ q'. IsKept s u top p q') (sym qe) (record {
        heads = λ l. ap (λ n. head_at n l) named ∙ k.heads l;
        hooks = λ x. ap (λ n. hook_at n x) named ∙ k.hooks x;
        lists = λ l. ap (λ n. list_at n l) named ∙ k.lists l;
        shown = λ x i. ap (λ n. shows_at n x) named ∙ k.shown x i;
        loose = ap (λ n. n.loose) named ∙ k.loose;
        nodes = k.nodes;
        edges = k.edges;
        headed = k.headed;
        few_heads = subst (λ n. n ≤ top_heads top + 4 * map.len p) (sym same.0) k.few_heads;
        few_members = subst (λ n. n ≤ 2 * map.len p + 6 * map.len q) (sym same.1) k.few_members;
        counted = k.counted;
        formed = k.formed;
        rise = k.rise;
      }))

-- the ends in the cell of an edge are listed
module _ (s : GraphState) (f : IsFormed s) (e : ℕ) (c : EdgeCell) (i : IsEdgeCell s e c) where
  pub ends_are : ends_of s e ≡ (c.from, c.to)
  ends_are = ap (λ o. unwrap_or o (0, 0)) i.ends

  pub from_listed : Has c.from s.nodes
  from_listed = subst (λ v. Has v s.nodes) (ap (λ (p : ℕ × ℕ). p.0) ends_are) (f.ends e i.listed).0

  pub to_listed : Has c.to s.nodes
  to_listed = subst (λ v. Has v s.nodes) (ap (λ (p : ℕ × ℕ). p.1) ends_are) (f.ends e i.listed).1
