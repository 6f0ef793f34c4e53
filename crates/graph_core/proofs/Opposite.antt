-- What looks along the edge list find.
use Rattle.std.proofs.Common.{◌≡◌, ℕ, ◌+◌, ◌<◌, ◌≤◌, Bool, true, false, cond, not, ◌&&◌, ◌==◌, nat_lt, List, [], ◌∷◌, ◌++◌, filter, is_some, Option, Some, None, option_map, unwrap_or, refl, sym, ap, subst, ◌∙◌, inl, inr, arith}
use Rattle.std.proofs.Common as list
use Rattle.std.proofs.lemmas.Bool.{lt-ltb, ltb-true}
use Rattle.std.specs.FinMap as map
use Rattle.item_pool.specs.Contents.{Contents, HasLive}
use Rattle.graph_state.specs.declared.name.ListName.{ListName}
use Rattle.graph_state.specs.declared.name.ListName.TheVariants.{Edges, Out}
use Rattle.graph_state.specs.declared.name.Element.{Element}
use Rattle.graph_state.specs.declared.name.Element.TheVariants.{Edge, End}
use Rattle.graph_state.specs.State.{GraphState, front, source, target, ends_of, shows_edge, shows_dart, out_list, visible_out}
use Rattle.graph_state.specs.Names.{Has, list_of, number, first_of}
use Rattle.graph_state.specs.Formed.{IsFormed}
use Rattle.graph_state.specs.Reversals.{AreOpposite}
use Rattle.graph_state.proofs.Has.{truth, not_both, some_same, has_left, has_right, has_last, has_map, has_mapped, has_filter, filter_has, map_join}
use Rattle.graph_state.proofs.Same.{nat_tells}
use Rattle.graph_lists.specs.Named.{Lists, list_at, seen_list}
use Rattle.graph_lists.specs.Heads.{IsMemberOf}
use Rattle.graph_core.specs.declared.cell.Heads.{Heads}
use Rattle.graph_core.specs.declared.cell.EdgeCell.{EdgeCell}
use Rattle.graph_core.specs.Kept.{NodeCells, Rises, IsKept}
use Rattle.graph_core.specs.Least.{is_free, IsLeast}
use Rattle.graph_core.specs.Opposite.{can_pair}
use Rattle.graph_core.proofs.Kept.{edge_cell, has_edge, cell_ends}
use Rattle.graph_core.proofs.Found.{seen_out, has_live}

-- both of two tests, and each of them
both : (a b : Bool) → a && b ≡ true → (a ≡ true) × (b ≡ true)
both true b e = (refl, e)
both false b e = cc

each : (a b : Bool) → a ≡ true → b ≡ true → a && b ≡ true
each a b p q = ap (λ a. a && b) p ∙ q

-- the least so far, and the next number
module _ (P : ℕ → Bool) (xs : List ℕ) (f : ℕ) where
  pub least_skips : (o : Option ℕ) → P f ≡ false → IsLeast P xs o → IsLeast P (xs ++ f ∷ []) o
  least_skips None fails l = λ d i t. elim (has_last d f xs i) [ inl j ↦ l d j t | inr e ↦ not_both t (ap P e ∙ fails) ]
  least_skips (Some b) fails l = (has_left b xs (f ∷ []) l.0, (l.1.0, λ d i t. elim (has_last d f xs i) [ inl j ↦ l.1.1 d j t | inr e ↦ absurd (not_both t (ap P e ∙ fails)) ]))

  pub least_stays : (b : ℕ) → b ≤ f → IsLeast P xs (Some b) → IsLeast P (xs ++ f ∷ []) (Some b)
  least_stays b le l = (has_left b xs (f ∷ []) l.0, (l.1.0, λ d i t. elim (has_last d f xs i) [ inl j ↦ l.1.1 d j t | inr e ↦ subst (λ d. b ≤ d) (sym e) le ]))

  pub least_new : (o : Option ℕ) → P f ≡ true → ((b : ℕ) → o ≡ Some b → f ≤ b) → IsLeast P xs o → IsLeast P (xs ++ f ∷ []) (Some f)
  least_new None fits less l = (has_right f xs (f ∷ []) (inl refl), (fits, λ d i t. elim (has_last d f xs i) [ inl j ↦ absurd (l d j t) | inr e ↦ subst (λ d. f ≤ d) (sym e) (omega arith) ]))
  least_new (Some b) fits less l = (
    has_right f xs (f ∷ []) (inl refl),
    (
      fits,
      λ d i t. elim (has_last d f xs i) [
        | inl j ↦ let le = l.1.1 d j t in let lt = less b refl in omega (arith, le, lt)
        | inr e ↦ subst (λ d. f ≤ d) (sym e) (omega arith)
      ],
    ),
  )

-- in a list of rising numbers the least comes first
first_least : (Q : ℕ → Bool) (xs : List ℕ) (o : Option ℕ) → Rises xs → IsLeast Q xs o → o ≡ first_of (filter Q xs)
first_least Q [] None r l = refl
first_least Q [] (Some b) r l = absurd l.0
first_least Q (x ∷ xs) None r l = elim (truth (Q x)) [
  | inl t ↦ absurd (l x (inl refl) t)
  | inr n ↦ first_least Q xs None r.1 (λ d i t. l d (inr i) t) ∙ sym (ap (λ b. first_of (cond b (x ∷ filter Q xs) (filter Q xs))) n)
]
first_least Q (x ∷ xs) (Some b) r l = elim (truth (Q x)) [
  | inl t ↦
      let le = l.1.1 x (inl refl) t in
      let same : b ≡ x = elim l.0 [ inl e ↦ e | inr i ↦ let lt = r.0 b i in absurd (omega (arith, le, lt)) ] in
      ap Some same ∙ sym (ap (λ b. first_of (cond b (x ∷ filter Q xs) (filter Q xs))) t)
  | inr n ↦
      let rest : Has b xs = elim l.0 [ inl e ↦ absurd (not_both l.1.0 (ap Q e ∙ n)) | inr i ↦ i ] in
      first_least Q xs (Some b) r.1 (rest, (l.1.0, λ d i t. l.1.1 d (inr i) t)) ∙ sym (ap (λ b. first_of (cond b (x ∷ filter Q xs) (filter Q xs))) n)
]

-- what comes behind e in such a list is greater, and the rest isn't
module _ (e : ℕ) where
  rises_behind : (before behind : List ℕ) → Rises (before ++ e ∷ behind) → Rises behind
  rises_behind [] behind r = r.1
  rises_behind (x ∷ before) behind r = rises_behind before behind r.1

  greater : (before behind : List ℕ) → Rises (before ++ e ∷ behind) → (d : ℕ) → Has d behind → e < d
  greater [] behind r = r.0
  greater (x ∷ before) behind r = greater before behind r.1

  greater_behind : (before behind : List ℕ) → Rises (before ++ e ∷ behind) → (d : ℕ) → Has d (before ++ e ∷ behind) → e < d → Has d behind
  greater_behind [] behind r d (inl n) lt = absurd (omega (arith, n, lt))
  greater_behind [] behind r d (inr i) lt = i
  greater_behind (x ∷ before) behind r d (inl n) lt = let gt = r.0 e (has_right e before (e ∷ behind) (inl refl)) in absurd (omega (arith, n, lt, gt))
  greater_behind (x ∷ before) behind r d (inr i) lt = greater_behind before behind r.1 d i lt

module _ (s : GraphState) (t : Lists) (top : Option Heads) (p : NodeCells) (pool : Contents EdgeCell) (k : IsKept s t top p pool.live) (made : pool.made ≡ s.made_edges) where
  module _ (e : ℕ) where
    -- the test by a cell is the one by the state
    free_at : (f : ℕ) (c : EdgeCell) → map.get pool.live f ≡ Some c → shows_edge s f ≡ true → e < f → can_pair s e f ≡ true → is_free e (source s e) (target s e) f (map.get pool.live f) ≡ true
    free_at f c at shown lt ok =
        let i = edge_cell s t top p pool.live k f c at in
        let ends = cell_ends s t top p pool.live k f c at in
        ap (is_free e (source s e) (target s e) f) at
        ∙ each (nat_lt e f) _ (lt-ltb e f lt)
        ((λ j. not (is_some (sym i.reversal j)) && (((sym ends j).0 == target s e) && ((sym ends j).1 == source s e))) ∙ (both (shows_edge s f) _ ok).1)

    free_is : (f : ℕ) (c : EdgeCell) → map.get pool.live f ≡ Some c → shows_edge s f ≡ true → is_free e (source s e) (target s e) f (map.get pool.live f) ≡ true → (e < f) × (can_pair s e f ≡ true)
    free_is f c at shown ok =
        let i = edge_cell s t top p pool.live k f c at in
        let ends = cell_ends s t top p pool.live k f c at in
        let free = both (nat_lt e f) _ (sym (ap (is_free e (source s e) (target s e) f) at) ∙ ok) in
        (ltb-true e f free.0, each (shows_edge s f) _ shown ((λ j. not (is_some (i.reversal j)) && (((ends j).0 == target s e) && ((ends j).1 == source s e))) ∙ free.1))

    abbrev numbers : List ℕ
    numbers = list.map number (seen_list t.named true (Out (target s e)))

    -- what is in the visible out list of the target
    in_numbers : (f : ℕ) → Has f s.edges → shows_edge s f ≡ true → source s f ≡ target s e → Has f numbers
    in_numbers f i shown from =
        let h = subst (λ v. Has (End (front f)) (list_of s (Out v))) from (k.formed.housed (End (front f)) i) in
        let m = has_mapped End (End (front f)) (out_list s (target s e)) h in
        let d = filter_has (shows_dart s) m.0 (out_list s (target s e)) m.1.0 (subst (λ x. shows_edge s (number x) ≡ true) m.1.1 shown) in
        subst (λ x. Has (number x) numbers) (sym m.1.1) (has_map number (End m.0) (seen_list t.named true (Out (target s e)))
        (subst (Has (End m.0)) (sym (seen_out s t top p pool k made (target s e))) (has_map End m.0 (visible_out s (target s e)) d)))

    numbers_in : (f : ℕ) → Has f numbers → Has f s.edges × (shows_edge s f ≡ true)
    numbers_in f i =
        let x = has_mapped number f (seen_list t.named true (Out (target s e))) i in
        let d = has_mapped End x.0 (visible_out s (target s e)) (subst (Has x.0) (seen_out s t top p pool k made (target s e)) x.1.0) in
        let h = has_filter (shows_dart s) d.0 (out_list s (target s e)) d.1.0 in
        let same : f ≡ d.0.edge = x.1.1 ∙ ap number d.1.1 in
        (subst (λ n. Has n s.edges) (sym same) (k.formed.homes (Out (target s e)) (End d.0) (has_map End d.0 (out_list s (target s e)) h.0)).0, subst (λ n. shows_edge s n ≡ true) (sym same) h.1)

    equal : (a b : ℕ) → (a == b) ≡ true → a ≡ b
    equal a b is = elim (nat_tells a b) [ inl y ↦ y.1 | inr n ↦ absurd (not_both is n.0) ]

    abbrev Free : ℕ → Bool
    Free f = is_free e (source s e) (target s e) f (map.get pool.live f)

    from_target : (f : ℕ) → can_pair s e f ≡ true → source s f ≡ target s e
    from_target f ok = equal (source s f) (target s e) (both _ _ (both _ _ (both (shows_edge s f) _ ok).1).1).0

    module _ (before behind : List ℕ) (is : s.edges ≡ before ++ e ∷ behind) where
      rising : Rises (before ++ e ∷ behind)
      rising = subst Rises is k.rise

      in_edges : (d : ℕ) → Has d behind → Has d s.edges
      in_edges d i = subst (Has d) (sym is) (has_right d before (e ∷ behind) (inr i))

      free_of : (d : ℕ) → Has d behind → can_pair s e d ≡ true → Has d numbers × (Free d ≡ true)
      free_of d i ok =
          let shown = (both (shows_edge s d) _ ok).0 in
          let c = has_edge s t top p pool.live k d (in_edges d i) in
          (in_numbers d (in_edges d i) shown (from_target d ok), free_at d c.0 c.1 shown (greater e before behind rising d i) ok)

      pair_of : (d : ℕ) → Has d numbers → Free d ≡ true → Has d behind × (can_pair s e d ≡ true)
      pair_of d i ok =
          let h = numbers_in d i in
          let c = has_edge s t top p pool.live k d h.0 in
          let f = free_is d c.0 c.1 h.1 ok in
          (greater_behind e before behind rising d (subst (Has d) is h.0) f.0, f.1)

      least_behind : (o : Option ℕ) → IsLeast Free numbers o → IsLeast (can_pair s e) behind o
      least_behind None l = λ d i ok. let f = free_of d i ok in l d f.0 f.1
      least_behind (Some b) l = let g = pair_of b l.0 l.1.0 in (g.0, (g.1, λ d i ok. let f = free_of d i ok in l.1.1 d f.0 f.1))

      pub first_found : (o : Option ℕ) → IsLeast Free numbers o → o ≡ first_of (filter (can_pair s e) behind)
      first_found o l = first_least (can_pair s e) behind o (rises_behind e before behind rising) (least_behind o l)

      -- the same with the ends in the cell of e
      pub first_by_cell : (c : EdgeCell) → map.get pool.live e ≡ Some c → (o : Option ℕ) → IsLeast (λ f. is_free e c.from c.to f (map.get pool.live f)) (list.map number (seen_list t.named true (Out c.to))) o → o ≡ first_of (filter (can_pair s e) behind)
      first_by_cell c at o l = first_found o (subst (λ (p : ℕ × ℕ). IsLeast (λ f. is_free e p.0 p.1 f (map.get pool.live f)) (list.map number (seen_list t.named true (Out p.1))) o) (sym (cell_ends s t top p pool.live k e c at)) l)

    pub found_live : (c : EdgeCell) → map.get pool.live e ≡ Some c → (f : ℕ) → Has f (list.map number (seen_list t.named true (Out c.to))) → HasLive pool f
    found_live c at f i = has_live s t top p pool k made f (numbers_in f (subst (λ (p : ℕ × ℕ). Has f (list.map number (seen_list t.named true (Out p.1)))) (sym (cell_ends s t top p pool.live k e c at)) i)).0

    pub found_opposite : (c : EdgeCell) → map.get pool.live e ≡ Some c → (f : ℕ) → IsLeast (λ f. is_free e c.from c.to f (map.get pool.live f)) (list.map number (seen_list t.named true (Out c.to))) (Some f) → Has f s.edges × AreOpposite s e f
    found_opposite c at f l =
        let least = subst (λ (p : ℕ × ℕ). IsLeast (λ f. is_free e p.0 p.1 f (map.get pool.live f)) (list.map number (seen_list t.named true (Out p.1))) (Some f)) (sym (cell_ends s t top p pool.live k e c at)) l in
        let here = numbers_in f least.0 in
        let cell = has_edge s t top p pool.live k f here.0 in
        let free = free_is f cell.0 cell.1 here.1 least.1.0 in
        let ends = both _ _ (both _ _ (both (shows_edge s f) _ free.1).1).1 in
        (here.0, ((λ n. let lt = free.0 in omega (arith, n, lt)), (sym (equal (target s f) (source s e) ends.1), sym (equal (source s f) (target s e) ends.0))))

  -- what stands in the edge list is there
  pub edge_list_live : (x : Element) → Has x (list_at t.named Edges) → HasLive pool (number x)
  edge_list_live x i =
      let e = has_mapped Edge x s.edges (subst (Has x) (k.lists Edges) i) in
      subst (λ x. HasLive pool (number x)) (sym e.1.1) (has_live s t top p pool k made e.0 e.1.0)

  pub edge_between : (e : ℕ) (before behind : List ℕ) → s.edges ≡ before ++ e ∷ behind → list_at t.named Edges ≡ list.map Edge before ++ Edge e ∷ list.map Edge behind
  edge_between e before behind is = k.lists Edges ∙ ap (list.map Edge) is ∙ map_join Edge before (e ∷ behind)

  pub behind_live : (e : ℕ) (before behind : List ℕ) → s.edges ≡ before ++ e ∷ behind → (x : Element) → Has x (list.map Edge behind) → HasLive pool (number x)
  behind_live e before behind is x i = edge_list_live x (subst (Has x) (sym (edge_between e before behind is)) (has_right x (list.map Edge before) (Edge e ∷ list.map Edge behind) (inr i)))

pub first_edge_number : (es : List ℕ) → option_map number (first_of (list.map Edge es)) ≡ first_of es
first_edge_number [] = refl
first_edge_number (e ∷ es) = refl
