-- An edge that is gone: the cells and the lists say what the state says.
use Rattle.std.proofs.Common.{◌≡◌, ℕ, ◌+◌, ◌*◌, ◌≤◌, ◌==◌, true, false, not, filter, Option, Some, None, option_map, refl, sym, ap, subst, ◌∙◌, inl, inr, arith}
use Rattle.std.specs.FinMap as map
use Rattle.item_pool.specs.Contents.{Contents, Removes}
use Rattle.graph_state.specs.declared.name.Element.{Element}
use Rattle.graph_state.specs.declared.name.Element.TheVariants.{Node, Edge, End}
use Rattle.graph_state.specs.State.{GraphState}
use Rattle.graph_state.specs.Names.{Has}
use Rattle.graph_state.specs.Parts.{is_part}
use Rattle.graph_state.specs.Edits.{unpaired, without_edge}
use Rattle.graph_state.proofs.Has.{truth, not_both}
use Rattle.graph_state.proofs.Same.{nat_tells}
use Rattle.graph_state.proofs.Maps.{out_here, out_else, len_out}
use Rattle.graph_state.proofs.Removed.{edge_out, lists_gone, left_edge, edge_left, hidden_left, live_left, shows_left, edges_fewer, formed_gone, without_is, none_left}
use Rattle.graph_lists.specs.Named.{Lists, head_at, shows_at}
use Rattle.graph_core.specs.declared.cell.Heads.{Heads}
use Rattle.graph_core.specs.declared.cell.EdgeCell.{EdgeCell}
use Rattle.graph_core.specs.Kept.{NodeCells, EdgeCells, hook_of, end_hook, IsEdge, top_heads, IsKept}
use Rattle.graph_core.specs.Pairs.{Unpairs}
use Rattle.graph_core.specs.Removal.{Drops}
use Rattle.graph_core.proofs.Kept.{edge_cell}
use Rattle.graph_core.proofs.Nodes.{node_kept}
use Rattle.graph_core.proofs.Pairs.{kept_unpaired, made_unpaired}
use Rattle.graph_core.proofs.Rises.{rises_filter}

module _ (s : GraphState) (t : Lists) (top : Option Heads) (p : NodeCells) (q : EdgeCells) (k : IsKept s t top p q) (e : ℕ) (c : EdgeCell) (at : map.get q e ≡ Some c) where
  here : Has e s.edges
  here = (edge_cell s t top p q k e c at).listed

  module _ (u : Lists) (q' : EdgeCells) (cells : q' ≡ map.remove q e) (d : Drops t u (is_part e) 6) where
    got_none : (i : ℕ) → i ≡ e → map.get q' i ≡ None
    got_none i n = ap (λ m. map.get m i) cells ∙ out_here q e i n

    got_else : (i : ℕ) → (i ≡ e → ⊥) → map.get q' i ≡ map.get q i
    got_else i ne = ap (λ m. map.get m i) cells ∙ out_else q e i ne

    no_hook : {X : Type 0} (f : EdgeCell → X) (i : ℕ) → (i == e) ≡ true → option_map f (map.get q' i) ≡ None
    no_hook f i t = elim (nat_tells i e) [
      | inl y ↦ ap (option_map f) (got_none i y.1)
      | inr n ↦ absurd (not_both t n.0)
    ]

    same_hook : {X : Type 0} (f : EdgeCell → X) (i : ℕ) → (i == e) ≡ false → option_map f (map.get q' i) ≡ option_map f (map.get q i)
    same_hook f i n = elim (nat_tells i e) [
      | inl y ↦ absurd (not_both y.0 n)
      | inr ne ↦ ap (option_map f) (got_else i ne.1)
    ]

    hook_gone : (x : Element) → is_part e x ≡ true → hook_of p q' x ≡ None
    hook_gone (Node v) y = absurd (not_both y refl)
    hook_gone (Edge i) y = no_hook (λ (c : EdgeCell). c.hook) i y
    hook_gone (End x) y = no_hook (end_hook x.back) x.edge y

    hook_left : (x : Element) → is_part e x ≡ false → hook_of p q' x ≡ hook_of p q x
    hook_left (Node v) n = refl
    hook_left (Edge i) n = same_hook (λ (c : EdgeCell). c.hook) i n
    hook_left (End x) n = same_hook (end_hook x.back) x.edge n

    cell_left : (i : ℕ) (o : Option EdgeCell) → (i ≡ e → ⊥) → IsEdge s i o → IsEdge (edge_out e s) i o
    unfolding edge_out
    cell_left i None ne j = λ h. j (left_edge s k.formed e i h).0
    cell_left i (Some x) ne j = record {
      listed = edge_left s k.formed e i j.listed ne;
      ends = out_else s.ends e i ne ∙ j.ends;
      label = out_else s.edge_labels e i ne ∙ j.label;
      reversal = j.reversal;
      hidden = j.hidden ∙ sym (hidden_left s k.formed e i ne);
    }

    pub kept_gone : map.get s.reversals e ≡ None → IsKept (edge_out e s) u top p q'
    unfolding edge_out
    kept_gone none =
        let fewer : map.len q' + 1 ≡ map.len q = ap (λ m. map.len m + 1) cells ∙ len_out q e c at in
        let shorter = edges_fewer s k.formed e here in
        let members = d.fewer in
        let few_members = k.few_members in
        let counted = k.counted.1 in
        record {
          heads = λ l. ap (λ hs. head_at (record u.named { heads = hs }) l) d.heads ∙ k.heads l;
          hooks = λ x. elim (truth (is_part e x)) [
            | inl y ↦ d.gone x y ∙ sym (hook_gone x y)
            | inr n ↦ d.hooks x n ∙ k.hooks x ∙ sym (hook_left x n)
          ];
          lists = λ l. d.lists l ∙ ap (filter (λ x. not (is_part e x))) (k.lists l) ∙ sym (lists_gone s k.formed e here l);
          shown = λ x i.
              let h = live_left s k.formed e x i in
              ap (λ ms. shows_at (record u.named { shown = ms }) x) d.shown ∙ k.shown x h.0 ∙ sym (shows_left s k.formed e x (ap not h.1));
          loose = d.loose ∙ ap (filter (λ x. not (is_part e x))) k.loose;
          nodes = λ v. node_kept s (edge_out e s) v (map.get p v) refl refl refl (k.nodes v);
          edges = λ i. elim (nat_tells i e) [
            | inl y ↦ subst (IsEdge (edge_out e s) i) (sym (got_none i y.1)) (λ h. (left_edge s k.formed e i h).1 y.1)
            | inr n ↦ subst (IsEdge (edge_out e s) i) (sym (got_else i n.1)) (cell_left i (map.get q i) n.1 (k.edges i))
          ];
          headed = k.headed;
          few_heads = subst (λ n. n ≤ top_heads top + 4 * map.len p) (sym d.same) k.few_heads;
          few_members = omega (arith, fewer, members, few_members);
          counted = (k.counted.0, omega (arith, fewer, shorter, counted));
          formed = formed_gone s k.formed e here none;
          rise = rises_filter (λ i. not (i == e)) s.edges k.rise;
        }

-- an edge and its reversal lose each other, and then the edge goes
module _ (s : GraphState) (t : Lists) (top : Option Heads) (p : NodeCells) (pool : Contents EdgeCell) (k : IsKept s t top p pool.live) (e : ℕ) (mid : Contents EdgeCell) (un : Unpairs pool mid e) where
  pub lonely : IsKept (unpaired e s) t top p mid.live
  lonely = kept_unpaired s t top p pool k mid e un

  pub kept_without : (u : Lists) (after : Contents EdgeCell) (c : EdgeCell) → Removes mid after e c → Drops t u (is_part e) 6 → IsKept (without_edge e s) u top p after.live
  kept_without u after c r d = subst (λ z. IsKept z u top p after.live) (sym (without_is e s)) (kept_gone (unpaired e s) t top p mid.live lonely e c r.held.0 u after.live r.live d (none_left e s))

  pub made_without : (after : Contents EdgeCell) (c : EdgeCell) → Removes mid after e c → pool.made ≡ s.made_edges → after.made ≡ s.made_edges
  made_without after c r made = r.made ∙ made_unpaired s t top p pool k mid e un ∙ made
