-- Edges that get or lose reversals: the cells say what the state says.
use Rattle.std.proofs.Common.{◌≡◌, ℕ, ◌+◌, ◌*◌, ◌≤◌, Bool, true, false, List, Option, Some, None, option_map, refl, sym, ap, subst, ◌∙◌, inl, inr}
use Rattle.std.specs.Ordering.{nat_cmp}
use Rattle.std.specs.FinMap as map
use Rattle.item_pool.specs.Contents.{Contents, HasLive}
use Rattle.graph_state.specs.declared.name.ListName.{ListName}
use Rattle.graph_state.specs.declared.name.Element.{Element}
use Rattle.graph_state.specs.declared.name.Element.TheVariants.{Node, Edge, End}
use Rattle.graph_state.specs.State.{GraphState}
use Rattle.graph_state.specs.Names.{Has}
use Rattle.graph_state.specs.Formed.{IsFormed}
use Rattle.graph_state.specs.Edits.{unpaired_at, unpaired, paired}
use Rattle.graph_state.specs.Reversals.{AreOpposite}
use Rattle.graph_state.proofs.Has.{some_same, none_some}
use Rattle.graph_state.proofs.Same.{nat_tells}
use Rattle.graph_state.proofs.Maps.{put_here, put_else, out_here, out_else, len_kept}
use Rattle.graph_state.proofs.Columns.{with_columns, lists_stay, live_stays, shows_stays, unpaired_from, formed_unpaired, formed_paired}
use Rattle.graph_lists.specs.Named.{Lists}
use Rattle.graph_core.specs.declared.cell.Heads.{Heads}
use Rattle.graph_core.specs.declared.cell.NodeCell.{NodeCell}
use Rattle.graph_core.specs.declared.cell.EdgeCell.{EdgeCell}
use Rattle.graph_core.specs.Kept.{NodeCells, EdgeCells, heads_of, hook_of, end_hook, IsNode, IsEdge, top_heads, IsKept}
use Rattle.graph_core.specs.Pairs.{Reversals, HasReversals, Rewires, reversal_put, PutsReversal, Unpairs, CanUnpair, pair_reversals, Pairs}
use Rattle.graph_core.proofs.Kept.{edge_cell}
use Rattle.graph_core.proofs.Found.{has_live}

put_at : (o : Option ℕ) (e : ℕ) (r : Reversals) (i : ℕ) → i ≡ e → map.get (reversal_put e o r) i ≡ o
put_at None e r i n = out_here r e i n
put_at (Some f) e r i n = put_here r e f i n

put_off : (o : Option ℕ) (e : ℕ) (r : Reversals) (i : ℕ) → (i ≡ e → ⊥) → map.get (reversal_put e o r) i ≡ map.get r i
put_off None e r i ne = out_else r e i ne
put_off (Some f) e r i ne = put_else r e f i ne

-- a cell that gets the reversal that it has
same_cell : (o : Option EdgeCell) (x : Option ℕ) → ((c : EdgeCell) → o ≡ Some c → x ≡ c.reversal) → option_map (λ (c : EdgeCell). record c { reversal = x }) o ≡ o
same_cell None x is = refl
same_cell (Some c) x is = ap (λ x. Some (record c { reversal = x })) (is c refl)

cell_twice : (o : Option EdgeCell) (x y : Option ℕ) → option_map (λ (c : EdgeCell). record c { reversal = x }) (option_map (λ (c : EdgeCell). record c { reversal = y }) o) ≡ option_map (λ (c : EdgeCell). record c { reversal = x }) o
cell_twice None x y = refl
cell_twice (Some c) x y = refl

has_reversal : (o : Option EdgeCell) (x : Option ℕ) (c : EdgeCell) → option_map (λ (c : EdgeCell). record c { reversal = x }) o ≡ Some c → x ≡ c.reversal
has_reversal None x c is = absurd (none_some is)
has_reversal (Some d) x c is = ap (λ (c : EdgeCell). c.reversal) (some_same is)

module _ (p q : Contents EdgeCell) where
  pub puts_reversal : (e : ℕ) (o : Option ℕ) (c : EdgeCell) → map.get p.live e ≡ Some c → q.live ≡ map.insert p.live e (record c { reversal = o }) → q.made ≡ p.made → PutsReversal p q e o
  puts_reversal e o c at live made r has = record {
    cells = λ i. elim (nat_tells i e) [
      | inl y ↦
          ap (λ m. map.get m i) live ∙ put_here p.live e (record c { reversal = o }) i y.1
          ∙ ap (λ x. Some (record c { reversal = x })) (sym (put_at o e r i y.1))
          ∙ sym (ap (option_map (λ (c : EdgeCell). record c { reversal = map.get (reversal_put e o r) i })) (ap (map.get p.live) y.1 ∙ at))
      | inr n ↦
          ap (λ m. map.get m i) live ∙ put_else p.live e (record c { reversal = o }) i n.1
          ∙ sym (same_cell (map.get p.live i) (map.get (reversal_put e o r) i) (λ c at. put_off o e r i n.1 ∙ has i c at))
    ];
    count = ap map.len live ∙ len_kept p.live e (record c { reversal = o }) c at;
    made = made;
  }

  pub rewires_has : (r : Reversals) → Rewires p q r → HasReversals q r
  rewires_has r w i c at = has_reversal (map.get p.live i) (map.get r i) c (sym (w.cells i) ∙ at)

  pub rewires_on : (u : Contents EdgeCell) (r x : Reversals) → Rewires p q r → Rewires q u x → Rewires p u x
  rewires_on u r x first second = record {
    cells = λ i. second.cells i ∙ ap (option_map (λ (c : EdgeCell). record c { reversal = map.get x i })) (first.cells i) ∙ cell_twice (map.get p.live i) (map.get x i) (map.get r i);
    count = second.count ∙ first.count;
    made = second.made ∙ first.made;
  }

  -- a cell that is there stays
  pub rewires_live : (r : Reversals) → Rewires p q r → (i : ℕ) → HasLive p i → HasLive q i
  rewires_live r w i h = (record h.0 { reversal = map.get r i }, (w.cells i ∙ ap (option_map (λ (c : EdgeCell). record c { reversal = map.get r i })) h.1.0, h.1.1, subst (λ n. i ≤ n) (sym w.made) h.1.2))

  rewires_as : (x r : Reversals) → ((i : ℕ) → map.get x i ≡ map.get r i) → Rewires p q x → Rewires p q r
  rewires_as x r same w = record {
    cells = λ i. w.cells i ∙ ap (λ o. option_map (λ (c : EdgeCell). record c { reversal = o }) (map.get p.live i)) (same i);
    count = w.count;
    made = w.made;
  }

  -- an edge that has no reversal loses none
  pub unpairs_none : (e : ℕ) → PutsReversal p q e None → (r : Reversals) → HasReversals p r → map.get r e ≡ None → Rewires p q (unpaired_at e (map.get r e) r)
  unpairs_none e puts r has none = subst (λ o. Rewires p q (unpaired_at e o r)) (sym none) (rewires_as (map.remove r e) r (λ i. elim (nat_tells i e) [
    | inl y ↦ out_here r e i y.1 ∙ sym (ap (map.get r) y.1 ∙ none)
    | inr n ↦ out_else r e i n.1
  ]) (puts r has))

  pub unpairs_some : (u : Contents EdgeCell) (e f : ℕ) → PutsReversal p q e None → PutsReversal q u f None → (r : Reversals) → HasReversals p r → map.get r e ≡ Some f → Rewires p u (unpaired_at e (map.get r e) r)
  unpairs_some u e f first second r has some =
      let w = first r has in
      subst (λ o. Rewires p u (unpaired_at e o r)) (sym some) (rewires_on u (map.remove r e) (map.remove (map.remove r e) f) w (second (map.remove r e) (rewires_has (map.remove r e) w)))

  -- an edge and its reversal lost each other, and another edge can
  module _ (e f : ℕ) (u : Unpairs p q e) (can : CanUnpair p f) where
    abbrev left : Reversals
    left = unpaired_at e (map.get can.reversals e) can.reversals

    pub can_still : CanUnpair q f
    can_still =
        let w = u can.reversals can.has in
        record {
          live = rewires_live left w f can.live;
          reversals = left;
          has = rewires_has left w;
          partners = λ i g is. rewires_live left w g (can.partners i g (unpaired_from can.reversals e (map.get can.reversals e) i g is).0);
        }

-- lists as before, and cells with the same tokens
module _ (s : GraphState) (t : Lists) (top : Option Heads) (p : NodeCells) (q : EdgeCells) (k : IsKept s t top p q) (r : Reversals) (a b : map.FinMap nat_cmp (List ℕ)) where
  pub kept_columns : (p' : NodeCells) (q' : EdgeCells) → ((l : ListName) → heads_of top p' l ≡ heads_of top p l) → ((x : Element) → hook_of p' q' x ≡ hook_of p q x) → map.len p' ≡ map.len p → map.len q' ≡ map.len q
      → ((v : ℕ) → IsNode (with_columns s r a b) v (map.get p' v)) → ((e : ℕ) → IsEdge (with_columns s r a b) e (map.get q' e)) → IsFormed (with_columns s r a b) → IsKept (with_columns s r a b) t top p' q'
  kept_columns p' q' heads hooks nodes_len edges_len nodes edges formed = record {
    heads = λ l. k.heads l ∙ sym (heads l);
    hooks = λ x. k.hooks x ∙ sym (hooks x);
    lists = λ l. k.lists l ∙ sym (lists_stay s r a b l);
    shown = λ x i. k.shown x (live_stays s r a b x i) ∙ sym (shows_stays s r a b x);
    loose = k.loose;
    nodes = nodes;
    edges = edges;
    headed = k.headed;
    few_heads = subst (λ n. t.heads ≤ top_heads top + 4 * n) (sym nodes_len) k.few_heads;
    few_members = subst (λ n. t.members ≤ 2 * n + 6 * map.len q') (sym nodes_len) (subst (λ n. t.members ≤ 2 * map.len p + 6 * n) (sym edges_len) k.few_members);
    counted = (nodes_len ∙ k.counted.0, edges_len ∙ k.counted.1);
    formed = formed;
    rise = k.rise;
  }

-- other reversals keep a part of the cells that has nothing to do with them
part_stays : {X : Type 0} (f : EdgeCell → X) (x : Option ℕ) → ((c : EdgeCell) → f (record c { reversal = x }) ≡ f c) → (o : Option EdgeCell) → option_map f (option_map (λ (c : EdgeCell). record c { reversal = x }) o) ≡ option_map f o
part_stays f x alike None = refl
part_stays f x alike (Some c) = ap Some (alike c)

end_stays : (x : Option ℕ) (g : Bool) (c : EdgeCell) → end_hook g (record c { reversal = x }) ≡ end_hook g c
end_stays x true c = refl
end_stays x false c = refl

-- a reversal is listed
pub reversal_listed : (s : GraphState) → IsFormed s → (e f : ℕ) → map.get s.reversals e ≡ Some f → Has f s.edges
reversal_listed s formed e f is = (formed.reversals f e (formed.reversals e f is).both).listed

module _ (s : GraphState) (t : Lists) (top : Option Heads) (p : NodeCells) (pool : Contents EdgeCell) (k : IsKept s t top p pool.live) where
  pub reversals_kept : HasReversals pool s.reversals
  reversals_kept i c at = (edge_cell s t top p pool.live k i c at).reversal

  module _ (after : Contents EdgeCell) (r : Reversals) (w : Rewires pool after r) where
    rewired_hooks : (x : Element) → hook_of p after.live x ≡ hook_of p pool.live x
    rewired_hooks (Node v) = refl
    rewired_hooks (Edge i) = ap (option_map (λ (c : EdgeCell). c.hook)) (w.cells i) ∙ part_stays (λ (c : EdgeCell). c.hook) (map.get r i) (λ c. refl) (map.get pool.live i)
    rewired_hooks (End d) = ap (option_map (end_hook d.back)) (w.cells d.edge) ∙ part_stays (end_hook d.back) (map.get r d.edge) (end_stays (map.get r d.edge) d.back) (map.get pool.live d.edge)

    rewired_cell : (e : ℕ) (o : Option EdgeCell) → IsEdge s e o → IsEdge (record s { reversals = r }) e (option_map (λ (c : EdgeCell). record c { reversal = map.get r e }) o)
    rewired_cell e None i = i
    rewired_cell e (Some c) i = record { listed = i.listed; ends = i.ends; label = i.label; reversal = refl; hidden = i.hidden }

    rewired_node : (v : ℕ) (o : Option NodeCell) → IsNode s v o → IsNode (record s { reversals = r }) v o
    rewired_node v None i = i
    rewired_node v (Some c) i = record { listed = i.listed; label = i.label; hidden = i.hidden }

    -- the cells have other reversals, and so has the state
    pub kept_rewired : IsFormed (record s { reversals = r }) → IsKept (record s { reversals = r }) t top p after.live
    kept_rewired formed = kept_columns s t top p pool.live k r s.node_labels s.edge_labels p after.live (λ l. refl) rewired_hooks refl w.count
        (λ v. rewired_node v (map.get p v) (k.nodes v)) (λ e. subst (IsEdge (record s { reversals = r }) e) (sym (w.cells e)) (rewired_cell e (map.get pool.live e) (k.edges e))) formed

  -- an edge and its reversal lose each other
  pub kept_unpaired : (after : Contents EdgeCell) (e : ℕ) → Unpairs pool after e → IsKept (unpaired e s) t top p after.live
  kept_unpaired after e u = kept_rewired after (unpaired_at e (map.get s.reversals e) s.reversals) (u s.reversals reversals_kept) (formed_unpaired s k.formed e)

  pub made_unpaired : (after : Contents EdgeCell) (e : ℕ) → Unpairs pool after e → after.made ≡ pool.made
  made_unpaired after e u = (u s.reversals reversals_kept).made

  -- a reversal is there
  pub reversal_live : pool.made ≡ s.made_edges → (e f : ℕ) → map.get s.reversals e ≡ Some f → HasLive pool f
  reversal_live made e f is = has_live s t top p pool k made f (reversal_listed s k.formed e f is)

  pub can_unpair : pool.made ≡ s.made_edges → (e : ℕ) → Has e s.edges → CanUnpair pool e
  can_unpair made e i = record {
    live = has_live s t top p pool k made e i;
    reversals = s.reversals;
    has = reversals_kept;
    partners = reversal_live made;
  }

  -- two edges become each other's reversal
  pub kept_paired : (after : Contents EdgeCell) (e f : ℕ) → Has e s.edges → Has f s.edges → AreOpposite s e f → Pairs pool after e f → IsKept (paired e f s) t top p after.live
  unfolding paired
  kept_paired after e f he hf o w = kept_rewired after (pair_reversals e f s.reversals) (w s.reversals reversals_kept) (formed_paired s k.formed e f he hf o)

  pub made_paired : (after : Contents EdgeCell) (e f : ℕ) → Pairs pool after e f → after.made ≡ pool.made
  made_paired after e f w = (w s.reversals reversals_kept).made
