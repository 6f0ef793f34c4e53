-- An edge that goes elsewhere: the cells and the lists say what the state says.
use Rattle.std.proofs.Common.{◌≡◌, ℕ, ◌+◌, ◌*◌, ◌≤◌, Bool, true, false, not, ◌&&◌, List, [], ◌∷◌, ◌++◌, filter, Option, Some, None, refl, sym, ap, subst, ◌∙◌, inl, inr}
use Rattle.std.specs.FinMap as map
use Rattle.std.specs.FinSet as set
use Rattle.leda_base.specs.declared.name.ItemName.TheVariants as names
use Rattle.item_pool.specs.Contents.{Contents}
use Rattle.graph_state.specs.declared.name.ListName.{ListName}
use Rattle.graph_state.specs.declared.name.ListName.TheVariants.{Out}
use Rattle.graph_state.specs.declared.name.Element.{Element}
use Rattle.graph_state.specs.declared.name.Element.TheVariants.{Node, Edge, End}
use Rattle.graph_state.specs.State.{GraphState, front, back, ends_of, shows_node, shows_edge, shows_ends}
use Rattle.graph_state.specs.Names.{Has, list_of, same_element, same_list, without, back_row}
use Rattle.graph_state.specs.Parts.{is_dart}
use Rattle.graph_state.specs.Edits.{unpaired, moved, reversed}
use Rattle.graph_state.specs.Refusals.{AreVisible}
use Rattle.graph_state.proofs.Has.{not_both, filter_twice, filter_same}
use Rattle.graph_state.proofs.Same.{nat_tells, element_tells, has_without}
use Rattle.graph_state.proofs.Maps.{put_here, put_else}
use Rattle.graph_state.proofs.Lists.{one}
use Rattle.graph_state.proofs.Removed.{none_left}
use Rattle.graph_state.proofs.Moved.{edge_moved, moved_is, lists_moved, live_moved, shows_moved, formed_moved}
use Rattle.graph_lists.specs.Named.{Lists, Named, head_at, hook_at, list_at, shows_at, pushed, unlinked}
use Rattle.graph_lists.proofs.Numbers.{look_each}
use Rattle.graph_core.specs.declared.cell.Heads.{Heads}
use Rattle.graph_core.specs.declared.cell.EdgeCell.{EdgeCell}
use Rattle.graph_core.specs.Kept.{NodeCells, EdgeCells, IsEdgeCell, IsEdge, top_heads, IsKept}
use Rattle.graph_core.specs.Pairs.{Unpairs}
use Rattle.graph_core.specs.Moves.{MovesDarts}
use Rattle.graph_core.proofs.CellPut.{got_here, got_else, as_many, hooks_stay}
use Rattle.graph_core.proofs.Kept.{edge_cell, ends_are, from_listed, to_listed}
use Rattle.graph_core.proofs.Names.{pushed_list, taken}
use Rattle.graph_core.proofs.Nodes.{node_kept}
use Rattle.graph_core.proofs.Pairs.{kept_unpaired}

dart_is : (e k : ℕ) (b : Bool) → let d = End (record { edge = k; back = b }) in (not (same_element d (End (front e))) && not (same_element d (End (back e)))) ≡ not (is_dart e d)
dart_is e k true = refl
dart_is e k false = elim (is_dart e (End (front k))) as (λ b. (not b && true) ≡ not b) [ true ↦ refl | false ↦ refl ]

darts_are : (e : ℕ) (x : Element) → (not (same_element x (End (front e))) && not (same_element x (End (back e)))) ≡ not (is_dart e x)
darts_are e (Node v) = refl
darts_are e (Edge k) = refl
darts_are e (End d) = dart_is e d.edge d.back

both_unlinked : (e : ℕ) (n : Named) (l : ListName) → list_at (unlinked (End (back e)) (unlinked (End (front e)) n)) l ≡ filter (λ x. not (is_dart e x)) (list_at n l)
both_unlinked e n l =
    look_each same_list [] (without same_element (End (back e))) (unlinked (End (front e)) n).lists l refl
    ∙ ap (without same_element (End (back e))) (look_each same_list [] (without same_element (End (front e))) n.lists l refl)
    ∙ filter_twice (λ x. not (same_element x (End (back e)))) (λ x. not (same_element x (End (front e)))) (list_at n l)
    ∙ filter_same (λ x. not (same_element x (End (front e))) && not (same_element x (End (back e)))) (λ x. not (is_dart e x)) (list_at n l) (λ x i. darts_are e x)

pub unlinked_has : (n : Named) (x y : Element) (l : ListName) → (y ≡ x → ⊥) → Has y (list_at n l) → Has y (list_at (unlinked x n) l)
unlinked_has n x y l ne i = subst (Has y) (sym (look_each same_list [] (without same_element x) n.lists l refl)) (has_without same_element element_tells x y (list_at n l) i ne)

both_taken : (e : ℕ) (xs : List Element) → xs ≡ [] → without same_element (End (back e)) (without same_element (End (front e)) (End (back e) ∷ End (front e) ∷ xs)) ≡ []
both_taken e xs none =
    ap (λ xs. without same_element (End (back e)) (without same_element (End (front e)) (End (back e) ∷ End (front e) ∷ xs))) none
    ∙ ap (λ ys. without same_element (End (back e)) (End (back e) ∷ ys)) (taken (End (front e)) [])
    ∙ taken (End (back e)) []

module _ (s : GraphState) (t : Lists) (top : Option Heads) (p : NodeCells) (q : EdgeCells) (k : IsKept s t top p q) (e v w : ℕ) (c : EdgeCell) (at : map.get q e ≡ Some c) where
  here : Has e s.edges
  here = (edge_cell s t top p q k e c at).listed

  module _ (u : Lists) (q' : EdgeCells) (cells : q' ≡ map.insert q e (record c { from = v; to = w })) (row : ListName) (is : row ≡ back_row s.directed w) (d : MovesDarts t u e v row) where
    abbrev moved_cell : EdgeCell
    moved_cell = record c { from = v; to = w }

    new_cell : (i : ℕ) → i ≡ e → IsEdgeCell (edge_moved e v w s) i (record c { from = v; to = w })
    unfolding edge_moved
    new_cell i n =
        let j = subst (λ i. IsEdgeCell s i c) (sym n) (edge_cell s t top p q k e c at) in
        record { listed = j.listed; ends = put_here s.ends e (v, w) i n; label = j.label; reversal = j.reversal; hidden = j.hidden }

    old_cell : (i : ℕ) (o : Option EdgeCell) → (i ≡ e → ⊥) → IsEdge s i o → IsEdge (edge_moved e v w s) i o
    unfolding edge_moved
    old_cell i None ne j = j
    old_cell i (Some x) ne j = record { listed = j.listed; ends = put_else s.ends e (v, w) i ne ∙ j.ends; label = j.label; reversal = j.reversal; hidden = j.hidden }

    lists_are : (l : ListName) → list_at u.named l ≡ list_of (edge_moved e v w s) l
    lists_are l =
        let f = pushed (Out v) (End (front e)) (unlinked (End (back e)) (unlinked (End (front e)) t.named)) in
        ap (λ n. list_at n l) d.named ∙ pushed_list row (End (back e)) f l
        ∙ ap (λ r. list_at f l ++ one (same_list r l) (End (back e))) is
        ∙ ap (λ xs. xs ++ one (same_list (back_row s.directed w) l) (End (back e)))
        (pushed_list (Out v) (End (front e)) (unlinked (End (back e)) (unlinked (End (front e)) t.named)) l
        ∙ ap (λ xs. xs ++ one (same_list (Out v) l) (End (front e))) (both_unlinked e t.named l ∙ ap (filter (λ x. not (is_dart e x))) (k.lists l)))
        ∙ sym (lists_moved s k.formed e v w here l)

    pub kept_moved : map.get s.reversals e ≡ None → shows_edge s e ≡ true → shows_ends s (v, w) ≡ true → Has v s.nodes → Has w s.nodes → IsKept (edge_moved e v w s) u top p q'
    unfolding edge_moved
    kept_moved none seen shown hv hw =
        let cells_len = as_many q q' e c moved_cell at cells in
        record {
          heads = λ l. ap (λ n. head_at n l) d.named ∙ k.heads l;
          hooks = λ x. ap (λ n. hook_at n x) d.named ∙ k.hooks x ∙ hooks_stay q q' e c moved_cell at cells p refl refl refl x;
          lists = lists_are;
          shown = λ x i. ap (λ n. shows_at n x) d.named ∙ k.shown x (live_moved s k.formed e v w here x i) ∙ sym (shows_moved s k.formed e v w here seen shown x);
          loose = ap (λ (n : Named). n.loose) d.named ∙ both_taken e t.named.loose k.loose;
          nodes = λ i. node_kept s (edge_moved e v w s) i (map.get p i) refl refl refl (k.nodes i);
          edges = λ i. elim (nat_tells i e) [
            | inl y ↦ subst (IsEdge (edge_moved e v w s) i) (sym (got_here q q' e c moved_cell at cells i y.1)) (new_cell i y.1)
            | inr n ↦ subst (IsEdge (edge_moved e v w s) i) (sym (got_else q q' e c moved_cell at cells i n.1)) (old_cell i (map.get q i) n.1 (k.edges i))
          ];
          headed = k.headed;
          few_heads = subst (λ n. n ≤ top_heads top + 4 * map.len p) (sym d.room.heads) k.few_heads;
          few_members = subst (λ n. n ≤ 2 * map.len p + 6 * map.len q') (sym d.room.members) (subst (λ n. t.members ≤ 2 * map.len p + 6 * n) (sym cells_len) k.few_members);
          counted = (k.counted.0, cells_len ∙ k.counted.1);
          formed = formed_moved s k.formed e v w here hv hw none;
          rise = k.rise;
        }

-- an edge and its reversal lose each other, and then the edge goes elsewhere
module _ (s : GraphState) (t : Lists) (top : Option Heads) (p : NodeCells) (pool : Contents EdgeCell) (k : IsKept s t top p pool.live) (e v w : ℕ) (mid : Contents EdgeCell) (un : Unpairs pool mid e) where
  pub kept_relocated : (u : Lists) (after : Contents EdgeCell) (c : EdgeCell) (row : ListName) → map.get mid.live e ≡ Some c → after.live ≡ map.insert mid.live e (record c { from = v; to = w }) → row ≡ back_row s.directed w → MovesDarts t u e v row
      → shows_edge s e ≡ true → shows_ends s (v, w) ≡ true → Has v s.nodes → Has w s.nodes → IsKept (moved e v w s) u top p after.live
  kept_relocated u after c row at cells is d seen shown hv hw = subst (λ z. IsKept z u top p after.live) (sym (moved_is e v w s))
      (kept_moved (unpaired e s) t top p mid.live (kept_unpaired s t top p pool k mid e un) e v w c at u after.live cells row is d (none_left e s) seen shown hv hw)

both_true : (a b : Bool) → (a && b) ≡ true → (a ≡ true) × (b ≡ true)
both_true true b t = (refl, t)
both_true false b t = absurd (not_both t refl)

module _ (s : GraphState) (t : Lists) (top : Option Heads) (p : NodeCells) (q : EdgeCells) (k : IsKept s t top p q) (e : ℕ) (c : EdgeCell) (at : map.get q e ≡ Some c) where
  -- the ends of a visible edge are visible
  pub turned : AreVisible s (names.Edge e ∷ []) → AreVisible s (names.Edge e ∷ names.Node c.to ∷ names.Node c.from ∷ [])
  turned see =
      let cell = edge_cell s t top p q k e c at in
      let shown : (shows_node s c.from && shows_node s c.to) ≡ true =
      ap (shows_ends s) (sym (ends_are s k.formed e c cell)) ∙ (both_true (not (set.contains s.hidden_edges e)) (shows_ends s (ends_of s e)) see.1).1 in
      let both = both_true (shows_node s c.from) (shows_node s c.to) shown in
      (see.0, see.1, (to_listed s k.formed e c cell, both.1, (from_listed s k.formed e c cell, both.0, tt)))

  pub turned_is : moved e c.to c.from s ≡ reversed e s
  unfolding reversed
  turned_is = ap (λ (p : ℕ × ℕ). moved e p.1 p.0 s) (sym (ends_are s k.formed e c (edge_cell s t top p q k e c at)))
