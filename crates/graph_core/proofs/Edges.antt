-- A new edge: the cells and the lists say what the state says.
use Rattle.std.proofs.Common.{◌≡◌, ℕ, ◌+◌, ◌*◌, ◌<◌, ◌≤◌, ◌==◌, Bool, true, false, cond, ◌&&◌, List, [], ◌∷◌, ◌++◌, length, Option, Some, None, option_map, refl, sym, ap, subst, ◌∙◌, inl, inr, arith, length-append}
use Rattle.std.specs.FinMap as map
use Rattle.std.specs.FinSet as set
use Rattle.leda_base.specs.declared.name.ItemName.TheVariants as names
use Rattle.item_pool.specs.Contents.{Contents}
use Rattle.item_pool.specs.declared.pool.Item.{Item}
use Rattle.graph_state.specs.declared.name.ListName.{ListName}
use Rattle.graph_state.specs.declared.name.ListName.TheVariants.{Edges, Out}
use Rattle.graph_state.specs.declared.name.Element.{Element}
use Rattle.graph_state.specs.declared.name.Element.TheVariants.{Node, Edge, End}
use Rattle.graph_state.specs.State.{GraphState, front, back, shows_node, shows_ends}
use Rattle.graph_state.specs.Names.{Has, list_of, shows, IsLive, home, same_element, same_list, back_row, without}
use Rattle.graph_state.specs.Formed.{IsLabel}
use Rattle.graph_state.specs.Edits.{with_edge}
use Rattle.graph_state.specs.Refusals.{EdgeRoom, AreVisible}
use Rattle.graph_state.proofs.Has.{some_or_none, has_left, has_right}
use Rattle.graph_state.proofs.Same.{nat_tells}
use Rattle.graph_state.proofs.Maps.{put_here, put_else, len_put}
use Rattle.graph_state.proofs.Lists.{one, edge_lists}
use Rattle.graph_state.proofs.Added.{IsOf, AddsEdge, edge_fresh, new_unhidden, formed_edge, adds_edge, edge_either, live_either, shows_old, shows_new, nowhere}
use Rattle.graph_lists.specs.declared.token.Hook.{Hook}
use Rattle.graph_lists.specs.Named.{Lists, Named, head_at, hook_at, list_at, shows_at, pushed, hooked}
use Rattle.graph_core.specs.declared.cell.Heads.{Heads}
use Rattle.graph_core.specs.declared.cell.EdgeCell.{EdgeCell}
use Rattle.graph_core.specs.Kept.{NodeCells, hook_of, end_hook, IsEdgeCell, IsEdge, top_heads, Rises, IsKept}
use Rattle.graph_core.specs.Steps.{with_hooks, CanEnterEdge, EntersEdge}
use Rattle.graph_core.proofs.Rises.{rises_push}
use Rattle.graph_core.proofs.Names.{pushed_list, taken, shows_else}
use Rattle.graph_core.proofs.Nodes.{node_kept, fresh_edge}

-- the three new elements are taken out of what stands nowhere
pub all_taken : (n : ℕ) (xs : List Element) → xs ≡ [] → without same_element (End (back n)) (without same_element (End (front n)) (without same_element (Edge n) (End (back n) ∷ End (front n) ∷ Edge n ∷ xs))) ≡ []
all_taken n xs e =
    ap (λ xs. without same_element (End (back n)) (without same_element (End (front n)) (without same_element (Edge n) (End (back n) ∷ End (front n) ∷ Edge n ∷ xs)))) e
    ∙ ap (λ ys. without same_element (End (back n)) (without same_element (End (front n)) (End (back n) ∷ End (front n) ∷ ys))) (taken (Edge n) [])
    ∙ ap (λ ys. without same_element (End (back n)) (End (back n) ∷ ys)) (taken (End (front n)) [])
    ∙ taken (End (back n)) []

module _ (s : GraphState) (t : Lists) (top : Option Heads) (p : NodeCells) (pool : Contents EdgeCell) (k : IsKept s t top p pool.live) (made : pool.made ≡ s.made_edges) where
  pub can_enter_edge : EdgeRoom s → 6 ≤ t.spare_members → 0 < pool.spare → CanEnterEdge t pool
  can_enter_edge room members spare =
      let few : map.len p ≤ 100000 = subst (λ n. n ≤ 100000) (sym k.counted.0) k.formed.few.0 in
      let many : map.len pool.live ≤ 400000 = subst (λ n. n ≤ 400000) (sym k.counted.1) k.formed.few.1 in
      let few_members = k.few_members in
      let fresh : map.get pool.live (pool.made + 1) ≡ None = ap (λ n. map.get pool.live (n + 1)) made ∙ fresh_edge s t top p pool.live k in
      record {
        members = (members, omega (arith, few, many, few_members));
        pool = (spare, subst (λ n. n < 16777215) (sym made) room.more);
        no_hook = k.hooks (Edge (pool.made + 1)) ∙ ap (option_map (λ (c : EdgeCell). c.hook)) fresh;
        no_front = k.hooks (End (front (pool.made + 1))) ∙ ap (option_map (end_hook false)) fresh;
        no_back = k.hooks (End (back (pool.made + 1))) ∙ ap (option_map (end_hook true)) fresh;
      }

  -- the next edge has a cell and three hooks, whatever its darts stand behind
  module _ (u : Lists) (after : Contents EdgeCell) (z : GraphState) (v w : ℕ) (label : List ℕ) (edge first second : Hook) (a : AddsEdge s z v w label) where
    abbrev cell : EdgeCell
    cell = record { label = label; from = v; to = w; reversal = None; is_hidden = false; hook = edge; front = first; back = second }

    module _ (live : after.live ≡ map.insert pool.live (s.made_edges + 1) cell)
        (hooks : (x : Element) → hook_at u.named x ≡ hook_at (with_hooks (s.made_edges + 1) edge first second t.named) x)
        (marks : (x : Element) → shows_at u.named x ≡ shows_at (with_hooks (s.made_edges + 1) edge first second t.named) x) where
      got_here : (i : ℕ) → i ≡ s.made_edges + 1 → map.get after.live i ≡ Some cell
      got_here i e = ap (λ m. map.get m i) live ∙ put_here pool.live (s.made_edges + 1) cell i e

      got_else : (i : ℕ) → (i ≡ s.made_edges + 1 → ⊥) → map.get after.live i ≡ map.get pool.live i
      got_else i ne = ap (λ m. map.get m i) live ∙ put_else pool.live (s.made_edges + 1) cell i ne

      by_edge : {X : Type 0} (f : EdgeCell → X) (x : X) (o : Option X) (i : ℕ) → f cell ≡ x → o ≡ option_map f (map.get pool.live i) → cond (s.made_edges + 1 == i) (Some x) o ≡ option_map f (map.get after.live i)
      by_edge f x o i here else = elim (nat_tells (s.made_edges + 1) i) [
        | inl y ↦ ap (λ b. cond b (Some x) o) y.0 ∙ ap Some (sym here) ∙ sym (ap (option_map f) (got_here i (sym y.1)))
        | inr n ↦ ap (λ b. cond b (Some x) o) n.0 ∙ else ∙ sym (ap (option_map f) (got_else i (λ e. n.1 (sym e))))
      ]

      end_hooks : (b : Bool) (i : ℕ) → hook_at t.named (End (record { edge = i; back = b })) ≡ option_map (end_hook b) (map.get pool.live i)
          → hook_at (with_hooks (s.made_edges + 1) edge first second t.named) (End (record { edge = i; back = b })) ≡ option_map (end_hook b) (map.get after.live i)
      end_hooks true i e = by_edge (end_hook true) second (hook_at t.named (End (back i))) i refl e
      end_hooks false i e = by_edge (end_hook false) first (hook_at t.named (End (front i))) i refl e

      pub edge_hooks : (x : Element) → hook_at u.named x ≡ hook_of p after.live x
      edge_hooks (Node i) = hooks (Node i) ∙ k.hooks (Node i)
      edge_hooks (Edge i) = hooks (Edge i) ∙ by_edge (λ (c : EdgeCell). c.hook) edge (hook_at t.named (Edge i)) i refl (k.hooks (Edge i))
      edge_hooks (End d) = hooks (End d) ∙ end_hooks d.back d.edge (k.hooks (End d))

      same_self_at : (i : ℕ) → i ≡ s.made_edges + 1 → (s.made_edges + 1 == i) ≡ true
      same_self_at i n = elim (nat_tells (s.made_edges + 1) i) [ inl y ↦ y.0 | inr ne ↦ absurd (ne.1 (sym n)) ]

      marked_end : (b : Bool) (i : ℕ) → i ≡ s.made_edges + 1 → shows_at (with_hooks (s.made_edges + 1) edge first second t.named) (End (record { edge = i; back = b })) ≡ true
      marked_end true i n = ap (λ b. cond b true (shows_at t.named (End (back i)))) (same_self_at i n)
      marked_end false i n = ap (λ b. cond b true (shows_at t.named (End (front i)))) (same_self_at i n)

      marked_old : (x : Element) → IsLive s x → shows_at (with_hooks (s.made_edges + 1) edge first second t.named) x ≡ shows_at t.named x
      marked_old x i =
          let e = s.made_edges + 1 in
          let ne : (y : Element) → IsOf e y → x ≡ y → ⊥ = λ y n eq. nowhere s k.formed (home s x) x (subst (IsOf e) (sym eq) n) (k.formed.housed x i) in
          shows_else (End (back e)) second (hooked (End (front e)) first (hooked (Edge e) edge t.named)) x (ne (End (back e)) refl)
          ∙ shows_else (End (front e)) first (hooked (Edge e) edge t.named) x (ne (End (front e)) refl)
          ∙ shows_else (Edge e) edge t.named x (ne (Edge e) refl)

      -- what is new shows, and what was there shows as before
      marked_new : (x : Element) → IsOf (s.made_edges + 1) x → shows_at (with_hooks (s.made_edges + 1) edge first second t.named) x ≡ true
      marked_new (Node i) n = absurd n
      marked_new (Edge i) n = ap (λ b. cond b true (shows_at t.named (Edge i))) (same_self_at i n)
      marked_new (End d) n = marked_end d.back d.edge n

      pub edge_shown : shows_ends s (v, w) ≡ true → (x : Element) → IsLive z x → shows_at u.named x ≡ shows z x
      edge_shown shown x i = elim (live_either s k.formed z v w label a x i) [
        | inl j ↦ marks x ∙ marked_old x j ∙ k.shown x j ∙ sym (shows_old s k.formed z v w label a x j)
        | inr n ↦ marks x ∙ marked_new x n ∙ sym (shows_new s k.formed z v w label a x n shown)
      ]

      unpaired : (i : ℕ) → i ≡ s.made_edges + 1 → map.get s.reversals i ≡ None
      unpaired i n = elim (some_or_none (map.get s.reversals i)) [ inl e ↦ e | inr f ↦ absurd (edge_fresh s k.formed (subst (λ i. Has i s.edges) n (k.formed.reversals i f.0 f.1).listed)) ]

      new_cell : (i : ℕ) → i ≡ s.made_edges + 1 → IsEdgeCell z i cell
      new_cell i n = record {
        listed = subst (Has i) (sym a.edges) (has_right i s.edges ((s.made_edges + 1) ∷ []) (inl n));
        ends = ap (λ m. map.get m i) a.ends ∙ put_here s.ends (s.made_edges + 1) (v, w) i n;
        label = ap (λ m. map.get m i) a.edge_labels ∙ put_here s.edge_labels (s.made_edges + 1) label i n;
        reversal = ap (λ m. map.get m i) a.reversals ∙ unpaired i n;
        hidden = sym (ap (λ h. set.contains h i) a.hidden_edges ∙ ap (set.contains s.hidden_edges) n ∙ new_unhidden s k.formed);
      }

      old_cell : (i : ℕ) (o : Option EdgeCell) → (i ≡ s.made_edges + 1 → ⊥) → IsEdge s i o → IsEdge z i o
      old_cell i None ne e = λ j. elim (edge_either s k.formed z v w label a i j) [ inl b ↦ e b | inr n ↦ ne n ]
      old_cell i (Some c) ne e = record {
        listed = subst (Has i) (sym a.edges) (has_left i s.edges ((s.made_edges + 1) ∷ []) e.listed);
        ends = ap (λ m. map.get m i) a.ends ∙ put_else s.ends (s.made_edges + 1) (v, w) i ne ∙ e.ends;
        label = ap (λ m. map.get m i) a.edge_labels ∙ put_else s.edge_labels (s.made_edges + 1) label i ne ∙ e.label;
        reversal = ap (λ m. map.get m i) a.reversals ∙ e.reversal;
        hidden = e.hidden ∙ sym (ap (λ h. set.contains h i) a.hidden_edges);
      }

      pub kept_added : (heads : (l : ListName) → head_at u.named l ≡ head_at t.named l) (lists : (l : ListName) → list_at u.named l ≡ list_of z l) (loose : u.named.loose ≡ []) (same : u.heads ≡ t.heads) (more : u.members ≡ t.members + 6)
          → IsLabel label → EdgeRoom s → Has v s.nodes → Has w s.nodes → shows_ends s (v, w) ≡ true → IsKept z u top p after.live
      kept_added heads lists loose same more lab room hv hw shown =
          let longer : map.len after.live ≡ map.len pool.live + 1 = ap map.len live ∙ len_put pool.live (s.made_edges + 1) cell (fresh_edge s t top p pool.live k) in
          let long : length z.edges ≡ length s.edges + 1 = ap length a.edges ∙ length-append s.edges ((s.made_edges + 1) ∷ []) in
          let few_members = k.few_members in
          record {
            heads = λ l. heads l ∙ k.heads l;
            hooks = edge_hooks;
            lists = lists;
            shown = edge_shown shown;
            loose = loose;
            nodes = λ i. node_kept s z i (map.get p i) a.nodes a.node_labels a.hidden_nodes (k.nodes i);
            edges = λ i. elim (nat_tells i (s.made_edges + 1)) [
              | inl y ↦ subst (IsEdge z i) (sym (got_here i y.1)) (new_cell i y.1)
              | inr n ↦ subst (IsEdge z i) (sym (got_else i n.1)) (old_cell i (map.get pool.live i) n.1 (k.edges i))
            ];
            headed = λ e. a.nodes ∙ k.headed e;
            few_heads = subst (λ n. n ≤ top_heads top + 4 * map.len p) (sym same) k.few_heads;
            few_members = omega (arith, longer, more, few_members);
            counted = (k.counted.0 ∙ sym (ap length a.nodes), longer ∙ ap (λ n. n + 1) k.counted.1 ∙ sym long);
            formed = formed_edge s k.formed z v w label a lab hv hw room.few room.more;
            rise = subst Rises (sym a.edges) (rises_push (s.made_edges + 1) s.edges (λ y i. let g = k.formed.given_edges y i in omega (arith, g.1)) k.rise);
          }

  -- a new edge whose darts go to the rear
  pub kept_edge : (u : Lists) (after : Contents EdgeCell) (v w : ℕ) (label : List ℕ) (it : Item) (row : ListName) → row ≡ back_row s.directed w → EntersEdge t u pool after row v w label it
      → IsLabel label → EdgeRoom s → Has v s.nodes → Has w s.nodes → shows_ends s (v, w) ≡ true → IsKept (with_edge v w label s) u top p after.live
  kept_edge u after v w label it row is e lab room hv hw shown =
      let n = s.made_edges + 1 in
      let base = with_hooks n e.edge e.first e.second t.named in
      let cell : EdgeCell = record { label = label; from = v; to = w; reversal = None; is_hidden = false; hook = e.edge; front = e.first; back = e.second } in
      let named : u.named ≡ pushed row (End (back n)) (pushed (Out v) (End (front n)) (pushed Edges (Edge n) base)) =
      e.named ∙ ap (λ m. pushed row (End (back (m + 1))) (pushed (Out v) (End (front (m + 1))) (pushed Edges (Edge (m + 1)) (with_hooks (m + 1) e.edge e.first e.second t.named)))) made in
      kept_added u after (with_edge v w label s) v w label e.edge e.first e.second (adds_edge s k.formed v w label)
      (e.inserts.live ∙ ap (λ m. map.insert pool.live (m + 1) cell) made)
      (λ x. ap (λ n. hook_at n x) named)
      (λ x. ap (λ n. shows_at n x) named)
      (λ l. ap (λ n. head_at n l) named)
      (λ l. ap (λ n. list_at n l) named
      ∙ pushed_list row (End (back n)) (pushed (Out v) (End (front n)) (pushed Edges (Edge n) base)) l
      ∙ ap (λ r. list_at (pushed (Out v) (End (front n)) (pushed Edges (Edge n) base)) l ++ one (same_list r l) (End (back n))) is
      ∙ ap (λ xs. xs ++ one (same_list (back_row s.directed w) l) (End (back n)))
      (pushed_list (Out v) (End (front n)) (pushed Edges (Edge n) base) l
      ∙ ap (λ xs. xs ++ one (same_list (Out v) l) (End (front n))) (pushed_list Edges (Edge n) base l ∙ ap (λ xs. xs ++ one (same_list Edges l) (Edge n)) (k.lists l)))
      ∙ sym (edge_lists v w label s l))
      (ap (λ (n : Named). n.loose) named ∙ all_taken n t.named.loose k.loose)
      e.heads e.members lab room hv hw shown

-- two visible nodes show as ends
pub shown_ends : (s : GraphState) (v w : ℕ) → AreVisible s (names.Node v ∷ names.Node w ∷ []) → shows_ends s (v, w) ≡ true
shown_ends s v w see = ap (λ b. b && shows_node s w) see.1 ∙ see.2.1
