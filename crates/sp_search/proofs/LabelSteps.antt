-- A label that falls, and what a row of entries leaves of the labels.
use Rattle.std.proofs.Common.{◌≡◌, ◌⊎◌, inl, inr, w64, to_z, of_z, ℕ, zero, suc, ◌+◌, ◌<◌, ◌≤◌, ℤ, pos, ◌≤ℤ◌, Bool, true, false, cond, List, length, get_or, set, replicate, refl, sym, ◌∙◌, ap, subst, arith, length-set, get_or-set_same, get_or-set_other}
use borrow.Author.Differences.{ints}
use Rattle.std.specs.List.{count_by}
use Rattle.std.proofs.lemmas.Int.{to_z-of_z}
use Rattle.std.proofs.lemmas.Bool.{cases_eq, cases_lt, true≢false}
use Rattle.std.proofs.lemmas.List.{get_or_read, get_or_past, length-replicate}
use Rattle.std.proofs.lemmas.List.Sums.{sum_by-set}
use Rattle.graph_defs.specs.declared.grouped.Incidence.{Incidence}
use Rattle.sp_search.specs.declared.labels.Label.{Label}
use Rattle.sp_search.specs.declared.labels.Label.TheVariants.{Unseen, Queued, Taken}
use Rattle.sp_search.specs.Labels.{label_at, is_taken, is_free, first_labels, IsWithin, IsLowered, IsKept}
use Rattle.sp_search.specs.Settling.{along, CameBy, StoodThere, HaveFallen}

-- ---- numbers of 64 bits
pub fits_back : (r z : ℤ) → pos 0 ≤ℤ z → z ≤ℤ pos 4611686018427387903 → r ≡ z → to_z w64 (of_z w64 r) ≡ z
fits_back r z low high e =
    let l : pos 0 ≤ℤ r = omega (arith, ints) in
    let h : r ≤ℤ pos 4611686018427387903 = omega (arith, ints) in
    grind (arith, ints, to_z-of_z)

-- ---- labels apart
abbrev is_queued : Label → Bool
is_queued Unseen = false
is_queued (Queued dist) = true
is_queued Taken = false

abbrev dist_of : Label → ℤ
dist_of Unseen = pos 0
dist_of (Queued dist) = dist
dist_of Taken = pos 0

pub unseen_not_queued : (e : ℤ) → Unseen ≡ Queued e → ⊥
unseen_not_queued e q = true≢false (sym (ap is_queued q))

pub taken_not_queued : (l : Label) (e : ℤ) → l ≡ Taken → l ≡ Queued e → ⊥
taken_not_queued l e t q = true≢false (sym (ap is_queued (sym t ∙ q)))

pub same_dist : (l : Label) (d e : ℤ) → l ≡ Queued d → l ≡ Queued e → d ≡ e
same_dist l d e p q = ap dist_of (sym p ∙ q)

pub not_taken : (l : Label) → (l ≡ Taken → ⊥) → is_taken l ≡ false
not_taken Unseen h = refl
not_taken (Queued dist) h = refl
not_taken Taken h = absurd (h refl)

pub is_taken_taken : (l : Label) → is_taken l ≡ true → l ≡ Taken
is_taken_taken Unseen h = absurd (true≢false (sym h))
is_taken_taken (Queued dist) h = absurd (true≢false (sym h))
is_taken_taken Taken h = refl

pub queued_free : (l : Label) (e : ℤ) → l ≡ Queued e → is_taken l ≡ false
queued_free l e q = ap is_taken q

-- ---- one label is set
pub label_same : (labels : List Label) (w : ℕ) (x : Label) → w < length labels → label_at (set labels w x) w ≡ x
label_same labels w x h = get_or-set_same labels w x Unseen h

pub label_other : (labels : List Label) (w v : ℕ) (x : Label) → (v ≡ w → ⊥) → label_at (set labels w x) v ≡ label_at labels v
label_other labels w v x ne = get_or-set_other labels w v x Unseen ne

pub label_here : (labels : List Label) (w v : ℕ) (x : Label) → w < length labels → v ≡ w → label_at (set labels w x) v ≡ x
label_here labels w v x h e =
    let P : ℕ → Type 0 = λ u. label_at (set labels w x) u ≡ x in
    subst P (sym e) (label_same labels w x h)

below_cases : (labels : List Label) (v : ℕ) (e : ℤ) → label_at labels v ≡ Queued e → (v < length labels) ⊎ (length labels ≤ v) → v < length labels
below_cases labels v e q (inl h) = h
below_cases labels v e q (inr h) = absurd (unseen_not_queued e (sym (get_or_past labels v Unseen h) ∙ q))

pub label_below : (labels : List Label) (v : ℕ) (e : ℤ) → label_at labels v ≡ Queued e → v < length labels
label_below labels v e q = below_cases labels v e q (cases_lt v (length labels))

taken_cases : (labels : List Label) (v : ℕ) → is_taken (label_at labels v) ≡ true → (v < length labels) ⊎ (length labels ≤ v) → v < length labels
taken_cases labels v q (inl h) = h
taken_cases labels v q (inr h) = absurd (true≢false (sym q ∙ ap is_taken (get_or_past labels v Unseen h)))

pub taken_below : (labels : List Label) (v : ℕ) → is_taken (label_at labels v) ≡ true → v < length labels
taken_below labels v q = taken_cases labels v q (cases_lt v (length labels))

-- ---- the first labels
pub all_unseen : (n v : ℕ) → label_at (replicate n Unseen) v ≡ Unseen
all_unseen zero v = refl
all_unseen (suc n) zero = refl
all_unseen (suc n) (suc v) = all_unseen n v

first_cases : (n s : ℕ) → s < n → (v : ℕ) (e : ℤ) → (v ≡ s) ⊎ (v ≡ s → ⊥) → label_at (first_labels n s) v ≡ Queued e → ⊥
first_cases n s h v e (inl q) l = taken_not_queued (label_at (first_labels n s) v) e (label_here (replicate n Unseen) s v Taken (omega (arith, length-replicate n Unseen)) q) l
first_cases n s h v e (inr ne) l = unseen_not_queued e (sym (label_other (replicate n Unseen) s v Taken ne ∙ all_unseen n v) ∙ l)

-- none is queued
pub first_none : (n s : ℕ) → s < n → (v : ℕ) (e : ℤ) → label_at (first_labels n s) v ≡ Queued e → ⊥
first_none n s h v e l = first_cases n s h v e (cases_eq v s) l

-- how many labels are free, where one is set
free_one : (l : Label) → is_taken l ≡ false → cond {A = ℕ} (is_free l) 1 0 ≡ 1
free_one Unseen h = refl
free_one (Queued dist) h = refl
free_one Taken h = absurd (true≢false h)

pub free_count : (labels : List Label) (w : ℕ) (x : Label) → w < length labels → is_taken (label_at labels w) ≡ false
    → count_by is_free (set labels w x) + 1 ≡ count_by is_free labels + cond {A = ℕ} (is_free x) 1 0
free_count labels w x h f =
    let g : Label → ℕ = λ l. cond (is_free l) 1 0 in
    let s : count_by is_free (set labels w x) + g (label_at labels w) ≡ count_by is_free labels + g x = sum_by-set g labels w x Unseen h in
    let o : g (label_at labels w) ≡ 1 = free_one (label_at labels w) f in
    omega arith

-- ---- a label falls
within_cases : (labels : List Label) (w v : ℕ) (z e : ℤ) → w < length labels → (label_at labels w ≡ Taken → ⊥) → ((d : ℤ) → label_at labels w ≡ Queued d → z ≤ℤ d)
    → (v ≡ w) ⊎ (v ≡ w → ⊥) → IsWithin labels v e → IsWithin (set labels w (Queued z)) v e
within_cases labels w v z e h free above (inl q) (inl t) =
    let P : ℕ → Type 0 = λ u. label_at labels u ≡ Taken in
    absurd (free (subst P q t))
within_cases labels w v z e h free above (inl q) (inr d) =
    let P : ℕ → Type 0 = λ u. label_at labels u ≡ Queued d.0 in
    let l : z ≤ℤ d.0 = above d.0 (subst P q d.1) in
    let m : d.0 ≤ℤ e = d.2 in
    inr (z, label_here labels w v (Queued z) h q, omega (arith, ints))
within_cases labels w v z e h free above (inr ne) (inl t) = inl (label_other labels w v (Queued z) ne ∙ t)
within_cases labels w v z e h free above (inr ne) (inr d) = inr (d.0, label_other labels w v (Queued z) ne ∙ d.1, d.2)

pub within_set : (labels : List Label) (w v : ℕ) (z e : ℤ) → w < length labels → (label_at labels w ≡ Taken → ⊥) → ((d : ℤ) → label_at labels w ≡ Queued d → z ≤ℤ d)
    → IsWithin labels v e → IsWithin (set labels w (Queued z)) v e
within_set labels w v z e h free above t = within_cases labels w v z e h free above (cases_eq v w) t

taken_set_cases : (labels : List Label) (w v : ℕ) (z : ℤ) → w < length labels → (label_at labels w ≡ Taken → ⊥) → (v ≡ w) ⊎ (v ≡ w → ⊥)
    → is_taken (label_at (set labels w (Queued z)) v) ≡ is_taken (label_at labels v)
taken_set_cases labels w v z h free (inl q) =
    ap is_taken (label_here labels w v (Queued z) h q) ∙ sym (ap (λ (u : ℕ). is_taken (label_at labels u)) q ∙ not_taken (label_at labels w) free)
taken_set_cases labels w v z h free (inr ne) = ap is_taken (label_other labels w v (Queued z) ne)

-- ---- the entries of a row, one by one
pub fallen_start : (row : List Incidence) (cost : List ℤ) (dist : ℤ) (labels : List Label) (preds : List ℕ) → HaveFallen row cost dist 0 labels preds labels preds
fallen_start row cost dist labels preds = record {
  long = refl;
  preds_long = refl;
  free = refl;
  taken = λ v. refl;
  kept = λ v e q. inr (e, q, omega (arith, ints));
  made = λ v e q. inl (record { label_is = q; pred_is = refl });
  done = λ i d l m. absurd (omega arith);
}

module _ (row : List Incidence) (cost : List ℤ) (dist : ℤ) (j : ℕ) (x : Incidence) (labels : List Label) (preds : List ℕ) (labels' : List Label) (preds' : List ℕ)
    (lj : j < length row) (r : x ≡ get_or row j x) (h : HaveFallen row cost dist j labels preds labels' preds') where
  done_more : (labels'' : List Label) → ((v : ℕ) (e : ℤ) → IsWithin labels' v e → IsWithin labels'' v e) → IsWithin labels'' x.end (along cost dist x)
      → (i : ℕ) (d : Incidence) → (i < j) ⊎ (j ≤ i) → i < j + 1 → i < length row → IsWithin labels'' (get_or row i d).end (along cost dist (get_or row i d))
  done_more labels'' keeps here i d (inl l) m n = keeps (get_or row i d).end (along cost dist (get_or row i d)) (h.done i d l n)
  done_more labels'' keeps here i d (inr l) m n =
      let e : j ≡ i = omega arith in
      let P : ℕ → Type 0 = λ k. IsWithin labels'' (get_or row k d).end (along cost dist (get_or row k d)) in
      let Q : Incidence → Type 0 = λ y. IsWithin labels'' y.end (along cost dist y) in
      subst P e (subst Q (get_or_read row j x lj r d) here)

  keep_at : IsWithin labels' x.end (along cost dist x) → HaveFallen row cost dist (j + 1) labels preds labels' preds'
  keep_at here = record {
    long = h.long;
    preds_long = h.preds_long;
    free = h.free;
    taken = h.taken;
    kept = h.kept;
    made = h.made;
    done = λ i d l m. done_more labels' (λ v e t. t) here i d (cases_lt i j) l m;
  }

  module _ (lw : x.end < length labels') (lp : x.end < length preds') (free : label_at labels' x.end ≡ Taken → ⊥)
      (above : (e : ℤ) → label_at labels' x.end ≡ Queued e → along cost dist x ≤ℤ e) where
    labels_set : List Label
    labels_set = set labels' x.end (Queued (along cost dist x))

    preds_set : List ℕ
    preds_set = set preds' x.end x.number

    within_more : (v : ℕ) (e : ℤ) → IsWithin labels' v e → IsWithin (set labels' x.end (Queued (along cost dist x))) v e
    within_more v e t = within_set labels' x.end v (along cost dist x) e lw free above t

    kept_more : (v : ℕ) (e : ℤ) → IsWithin labels' v e → IsWithin (set labels' x.end (Queued (along cost dist x))) v e
    kept_more v e t = within_more v e t

    made_old : (v : ℕ) (e : ℤ) → (v ≡ x.end → ⊥) → StoodThere labels preds preds' v e ⊎ ((entry : Incidence) × CameBy row cost dist preds' v e entry)
        → StoodThere labels preds (set preds' x.end x.number) v e ⊎ ((entry : Incidence) × CameBy row cost dist (set preds' x.end x.number) v e entry)
    made_old v e ne (inl s) = inl (record { label_is = s.label_is; pred_is = get_or-set_other preds' x.end v x.number 0 ne ∙ s.pred_is })
    made_old v e ne (inr c) =
        let by : CameBy row cost dist preds' v e c.0 = c.1 in
        inr (c.0, record { among = by.among; end_is = by.end_is; pred_is = get_or-set_other preds' x.end v x.number 0 ne ∙ by.pred_is; label_is = by.label_is })

    made_more : (v : ℕ) (e : ℤ) → (v ≡ x.end) ⊎ (v ≡ x.end → ⊥) → label_at (set labels' x.end (Queued (along cost dist x))) v ≡ Queued e
        → StoodThere labels preds (set preds' x.end x.number) v e ⊎ ((entry : Incidence) × CameBy row cost dist (set preds' x.end x.number) v e entry)
    made_more v e (inl q) t =
        let z : ℤ = along cost dist x in
        let P : ℕ → Type 0 = λ u. get_or (set preds' x.end x.number) u 0 ≡ x.number in
        inr (
          x,
          record {
            among = (j, lj, sym r);
            end_is = sym q;
            pred_is = subst P (sym q) (get_or-set_same preds' x.end x.number 0 lp);
            label_is = sym (same_dist (label_at (set labels' x.end (Queued z)) v) z e (label_here labels' x.end v (Queued z) lw q) t);
          },
        )
    made_more v e (inr ne) t = made_old v e ne (h.made v e (sym (label_other labels' x.end v (Queued (along cost dist x)) ne) ∙ t))

    fall_at : HaveFallen row cost dist (j + 1) labels preds (set labels' x.end (Queued (along cost dist x))) (set preds' x.end x.number)
    fall_at =
        let z : ℤ = along cost dist x in
        let f = free_count labels' x.end (Queued z) lw (not_taken (label_at labels' x.end) free) in
        record {
          long = length-set labels' x.end (Queued z) ∙ h.long;
          preds_long = length-set preds' x.end x.number ∙ h.preds_long;
          free = omega (arith, h.free, f);
          taken = λ v. taken_set_cases labels' x.end v z lw free (cases_eq v x.end) ∙ h.taken v;
          kept = λ v e q. within_more v e (h.kept v e q);
          made = λ v e t. made_more v e (cases_eq v x.end) t;
          done = λ i d l m. done_more (set labels' x.end (Queued z)) within_more
              (inr (z, label_same labels' x.end (Queued z) lw, omega (arith, ints))) i d (cases_lt i j) l m;
        }

  pub fallen_fall : (labels'' : List Label) (preds'' : List ℕ) → x.end < length labels' → x.end < length preds' → IsLowered labels' labels'' x.end (along cost dist x)
      → preds'' ≡ set preds' x.end x.number → HaveFallen row cost dist (j + 1) labels preds labels'' preds''
  fallen_fall labels'' preds'' lw lp l e =
      let P : List Label → Type 0 = λ xs. HaveFallen row cost dist (j + 1) labels preds xs preds'' in
      let Q : List ℕ → Type 0 = λ xs. HaveFallen row cost dist (j + 1) labels preds (set labels' x.end (Queued (along cost dist x))) xs in
      subst P (sym l.is) (subst Q (sym e) (fall_at lw lp l.free l.above))

  pub fallen_keep : (labels'' : List Label) → IsKept labels' labels'' x.end (along cost dist x) → HaveFallen row cost dist (j + 1) labels preds labels'' preds'
  fallen_keep labels'' k =
      let P : List Label → Type 0 = λ xs. HaveFallen row cost dist (j + 1) labels preds xs preds' in
      subst P (sym k.is) (keep_at k.within)
