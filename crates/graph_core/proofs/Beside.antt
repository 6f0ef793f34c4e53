-- A new edge next to another one: the cells and the lists say what the state says.
use Rattle.std.proofs.Common.{◌≡◌, ℕ, ◌+◌, ◌<◌, Bool, true, false, ◌&&◌, List, [], ◌∷◌, ◌++◌, Option, Some, None, refl, sym, ap, subst, ◌∙◌, inl, inr, arith}
use Rattle.std.specs.FinMap as map
use Rattle.leda_base.specs.declared.name.ItemName.TheVariants as names
use Rattle.item_pool.specs.Contents.{Contents}
use Rattle.item_pool.specs.declared.pool.Item.{Item}
use Rattle.graph_state.specs.declared.kind.Side.{Side}
use Rattle.graph_state.specs.declared.kind.Side.TheVariants.{Before, Behind}
use Rattle.graph_state.specs.declared.name.ListName.{ListName}
use Rattle.graph_state.specs.declared.name.ListName.TheVariants.{Edges, Out}
use Rattle.graph_state.specs.declared.name.Element.{Element}
use Rattle.graph_state.specs.declared.name.Element.TheVariants.{Node, Edge, End}
use Rattle.graph_state.specs.State.{GraphState, front, back, source, ends_of, shows_node, shows_ends, shows_edge}
use Rattle.graph_state.specs.Names.{Has, number, same_element, same_list, back_row}
use Rattle.graph_state.specs.Formed.{IsLabel}
use Rattle.graph_state.specs.Beside.{beside, with_edge_beside}
use Rattle.graph_state.specs.Refusals.{EdgeRoom, AreVisible}
use Rattle.graph_state.proofs.Has.{has_left}
use Rattle.graph_state.proofs.Same.{element_tells, has_without}
use Rattle.graph_state.proofs.Lists.{one}
use Rattle.graph_state.proofs.Beside.{adds_beside, lists_beside}
use Rattle.graph_lists.specs.declared.token.Hook.{Hook}
use Rattle.graph_lists.specs.Named.{Lists, Named, head_at, hook_at, list_at, shows_at, hooked, pushed, put_beside}
use Rattle.graph_lists.proofs.Numbers.{look_each}
use Rattle.graph_core.specs.declared.cell.Heads.{Heads}
use Rattle.graph_core.specs.declared.cell.EdgeCell.{EdgeCell}
use Rattle.graph_core.specs.Kept.{NodeCells, IsKept}
use Rattle.graph_core.specs.Steps.{with_hooks}
use Rattle.graph_core.specs.Beside.{CanStandBeside, CanPutFront, CanEnterBeside, EntersBeside}
use Rattle.graph_core.proofs.Kept.{edge_cell, front_hook, stands}
use Rattle.graph_core.proofs.Names.{pushed_list, shows_hooked, shows_else, hook_new, hook_else}
use Rattle.graph_core.proofs.Edges.{all_taken, kept_added}

-- the lists, where an element goes next to another one
put_list : (side : Side) (y x : Element) (n : Named) (l : ListName) → list_at (put_beside side y x n) l ≡ beside same_element side y x (list_at n l)
put_list Before y x n l = look_each same_list [] (beside same_element Before y x) n.lists l refl
put_list Behind y x n l = look_each same_list [] (beside same_element Behind y x) n.lists l refl

both_true : (a b : Bool) → a && b ≡ true → (a ≡ true) × (b ≡ true)
both_true true b e = (refl, e)
both_true false b e = cc

abbrev is_back : Element → Bool
is_back (Node v) = false
is_back (Edge e) = false
is_back (End d) = d.back

abbrev is_end : Element → Bool
is_end (Node v) = false
is_end (Edge e) = false
is_end (End d) = true

-- the front dart of the new edge n can go next to that of e
module _ (t : Lists) (q : Contents EdgeCell) (e n : ℕ) (old : e < n) (can : CanStandBeside t q e) (edge first second : Hook) (u : Lists) (named : u.named ≡ pushed Edges (Edge n) (with_hooks n edge first second t.named)) where
  front_edge : (i : ℕ) → End (front i) ≡ Edge n → ⊥
  front_edge i eq = let f = ap is_end eq in cc

  front_back : (i : ℕ) → End (front i) ≡ End (back n) → ⊥
  front_back i eq = let f = ap is_back eq in cc

  front_front : End (front e) ≡ End (front n) → ⊥
  front_front eq = let same = ap number eq in omega (arith, old, same)

  abbrev one_hooked : Named
  one_hooked = hooked (Edge n) edge t.named

  abbrev two_hooked : Named
  two_hooked = hooked (End (front n)) first one_hooked

  pub can_put_front : CanPutFront u q e (End (front n)) first
  can_put_front = record {
    beside = record {
      cell = can.cell;
      live = can.live;
      hook = ap (λ m. hook_at m (End (front e))) named
          ∙ hook_else (End (back n)) second two_hooked (End (front e)) (front_back e)
          ∙ hook_else (End (front n)) first one_hooked (End (front e)) front_front
          ∙ hook_else (Edge n) edge t.named (End (front e)) (front_edge e) ∙ can.hook;
      list = can.list;
      there = subst (Has (End (front e))) (sym (ap (λ m. list_at m can.list) named ∙ pushed_list Edges (Edge n) (with_hooks n edge first second t.named) can.list)) (has_left (End (front e)) (list_at t.named can.list) _ can.there);
      shows = ap (λ m. shows_at m (End (front e))) named
          ∙ shows_else (End (back n)) second two_hooked (End (front e)) (front_back e)
          ∙ shows_else (End (front n)) first one_hooked (End (front e)) front_front
          ∙ shows_else (Edge n) edge t.named (End (front e)) (front_edge e) ∙ can.shows;
    };
    hook = ap (λ m. hook_at m (End (front n))) named ∙ hook_else (End (back n)) second two_hooked (End (front n)) (front_back n) ∙ hook_new (End (front n)) first one_hooked;
    loose = subst (λ m. Has (End (front n)) m.loose) (sym named) (has_without same_element element_tells (Edge n) (End (front n)) (End (back n) ∷ End (front n) ∷ Edge n ∷ t.named.loose) (inr (inl refl)) (front_edge n));
    shows = ap (λ m. shows_at m (End (front n))) named ∙ shows_else (End (back n)) second two_hooked (End (front n)) (front_back n) ∙ shows_hooked (End (front n)) first one_hooked;
  }

module _ (s : GraphState) (t : Lists) (top : Option Heads) (p : NodeCells) (pool : Contents EdgeCell) (k : IsKept s t top p pool.live) (made : pool.made ≡ s.made_edges) where
  -- the front dart of a visible edge
  pub can_enter_beside : (e : ℕ) (c : EdgeCell) → map.get pool.live e ≡ Some c → shows_edge s e ≡ true → CanEnterBeside t pool e
  can_enter_beside e c at shown =
      let live = (edge_cell s t top p pool.live k e c at).listed in
      let given = k.formed.given_edges e live in
      record {
        old = omega (arith, given.1, made);
        beside = record {
          cell = c;
          live = at;
          hook = front_hook s t top p pool.live k e c at;
          list = Out (source s e);
          there = stands s t top p pool.live k (End (front e)) live;
          shows = k.shown (End (front e)) live ∙ shown;
        };
      }

  -- a new edge next to e
  pub kept_beside : (side : Side) (u : Lists) (after : Contents EdgeCell) (e v w : ℕ) (label : List ℕ) (it : Item) (row : ListName) → v ≡ source s e → row ≡ back_row s.directed w → EntersBeside t u pool after side e row v w label it
      → IsLabel label → EdgeRoom s → Has e s.edges → Has (source s e) s.nodes → Has w s.nodes → shows_ends s (source s e, w) ≡ true → IsKept (with_edge_beside side e w label s) u top p after.live
  kept_beside side u after e v w label it row from is b lab room he hv hw shown =
      let n = s.made_edges + 1 in
      let base = with_hooks n b.edge b.first b.second t.named in
      let cell : EdgeCell = record { label = label; from = source s e; to = w; reversal = None; is_hidden = false; hook = b.edge; front = b.first; back = b.second } in
      let named : u.named ≡ pushed row (End (back n)) (put_beside side (End (front e)) (End (front n)) (pushed Edges (Edge n) base)) =
      b.named ∙ ap (λ m. pushed row (End (back (m + 1))) (put_beside side (End (front e)) (End (front (m + 1))) (pushed Edges (Edge (m + 1)) (with_hooks (m + 1) b.edge b.first b.second t.named)))) made in
      kept_added s t top p pool k made u after (with_edge_beside side e w label s) (source s e) w label b.edge b.first b.second (adds_beside s k.formed side e w label he)
      (b.inserts.live
      ∙ ap (λ m. map.insert pool.live (m + 1) (record { label = label; from = v; to = w; reversal = None; is_hidden = false; hook = b.edge; front = b.first; back = b.second })) made
      ∙ ap (λ v. map.insert pool.live n (record { label = label; from = v; to = w; reversal = None; is_hidden = false; hook = b.edge; front = b.first; back = b.second })) from)
      (λ x. ap (λ n. hook_at n x) named)
      (λ x. ap (λ n. shows_at n x) named)
      (λ l. ap (λ n. head_at n l) named)
      (λ l. ap (λ n. list_at n l) named
      ∙ pushed_list row (End (back n)) (put_beside side (End (front e)) (End (front n)) (pushed Edges (Edge n) base)) l
      ∙ ap (λ r. list_at (put_beside side (End (front e)) (End (front n)) (pushed Edges (Edge n) base)) l ++ one (same_list r l) (End (back n))) is
      ∙ ap (λ xs. xs ++ one (same_list (back_row s.directed w) l) (End (back n)))
      (put_list side (End (front e)) (End (front n)) (pushed Edges (Edge n) base) l
      ∙ ap (beside same_element side (End (front e)) (End (front n))) (pushed_list Edges (Edge n) base l ∙ ap (λ xs. xs ++ one (same_list Edges l) (Edge n)) (k.lists l)))
      ∙ sym (lists_beside s k.formed side e w label he l))
      (ap (λ (n : Named). n.loose) named ∙ all_taken n t.named.loose k.loose)
      b.heads b.members lab room hv hw shown

-- a visible edge and a visible node show as ends of a new edge
pub shown_beside : (s : GraphState) (e w : ℕ) → AreVisible s (names.Edge e ∷ names.Node w ∷ []) → shows_ends s (source s e, w) ≡ true
shown_beside s e w see =
    let from = both_true (shows_node s (source s e)) _ (both_true _ (shows_ends s (ends_of s e)) see.1).1 in
    ap (λ b. b && shows_node s w) from.0 ∙ see.2.1
