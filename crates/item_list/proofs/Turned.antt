-- A list of pairs the other way round.
use Rattle.std.proofs.Common.{◌≡◌, ℕ, Bool, true, false, cond, List, [], ◌∷◌, ◌++◌, reverse, Option, Some, None, refl, sym, ap, subst, ◌∙◌, inl, inr}
use Rattle.std.proofs.lemmas.Bool.Decides.{eqb_tells}
use Rattle.std.proofs.lemmas.List.{reverse-append, reverse-reverse, append_assoc, append-nil}
use Rattle.std.specs.Prelude.{◌==◌}
use Rattle.item_ring.specs.RingLists.{IsIn, IsDistinct, front, back}
use Rattle.item_ring.proofs.Lists.{in_left, in_right, distinct_push}
use Rattle.item_list.specs.Items.{serials, value_at, pairs_without, pairs_with}
use Rattle.item_list.specs.declared.side.Side.{Side}
use Rattle.item_list.specs.declared.side.Side.TheVariants.{Front, Rear}
use Rattle.item_list.specs.Sides.{opposite, with_at, end_of, near, near_round, pairs_beside}
use Rattle.item_list.proofs.Beside.{both_of, pairs_more}
use Rattle.item_list.proofs.Pairs.{some_none}

-- what stood first stands last, and the other way round
last_turned : {A : Type 0} (x : A) (xs : List A) → reverse (x ∷ xs) ≡ reverse xs ++ x ∷ []
last_turned x xs = reverse-append (x ∷ []) xs

first_turned : {A : Type 0} (x : A) (xs : List A) → reverse (xs ++ x ∷ []) ≡ x ∷ reverse xs
first_turned x xs = reverse-append xs (x ∷ [])

-- a cut of the reverse
pub cut_turned : {A : Type 0} (x : A) (xs ys : List A) → reverse (xs ++ x ∷ ys) ≡ reverse ys ++ x ∷ reverse xs
cut_turned x xs ys = reverse-append xs (x ∷ ys) ∙ ap (λ l. l ++ reverse xs) (last_turned x ys) ∙ append_assoc (reverse ys) (x ∷ []) (reverse xs)

pub at_turned : {A : Type 0} (side : Side) (x : A) (xs : List A) → reverse (with_at (opposite side) x xs) ≡ with_at side x (reverse xs)
at_turned Front x xs = first_turned x xs
at_turned Rear x xs = last_turned x xs

two_turned : {A : Type 0} (x y : A) (xs ys : List A) → reverse (xs ++ x ∷ y ∷ ys) ≡ reverse ys ++ y ∷ x ∷ reverse xs
two_turned x y xs ys = cut_turned x xs (y ∷ ys) ∙ ap (λ l. l ++ x ∷ reverse xs) (last_turned y ys) ∙ append_assoc (reverse ys) (y ∷ []) (x ∷ reverse xs)

both_turned : {A : Type 0} (side : Side) (x y : A) (xs ys : List A) → reverse (xs ++ both_of (opposite side) x y ys) ≡ reverse ys ++ both_of side x y (reverse xs)
both_turned Front x y xs ys = two_turned x y xs ys
both_turned Rear x y xs ys = two_turned y x xs ys

in_turned : (m : ℕ) (xs : List ℕ) → IsIn m xs → IsIn m (reverse xs)
in_turned m [] i = i
in_turned m (x ∷ xs) (inl e) = subst (IsIn m) (sym (last_turned x xs)) (in_right m (reverse xs) (x ∷ []) (inl e))
in_turned m (x ∷ xs) (inr i) = subst (IsIn m) (sym (last_turned x xs)) (in_left m (reverse xs) (x ∷ []) (in_turned m xs i))

pub in_turned_back : (m : ℕ) (xs : List ℕ) → IsIn m (reverse xs) → IsIn m xs
in_turned_back m xs i = subst (IsIn m) (reverse-reverse xs) (in_turned m (reverse xs) i)

pub distinct_turned : (xs : List ℕ) → IsDistinct xs → IsDistinct (reverse xs)
distinct_turned [] d = d
distinct_turned (x ∷ xs) d = subst IsDistinct (sym (last_turned x xs)) (distinct_push x (reverse xs) (λ i. d.0 (in_turned_back x xs i)) (distinct_turned xs d.1))

back_push : (x : ℕ) (ys : List ℕ) → back (ys ++ x ∷ []) ≡ Some x
back_push x [] = refl
back_push x (y ∷ []) = refl
back_push x (y ∷ z ∷ ys) = back_push x (z ∷ ys)

back_turned : (xs : List ℕ) → back (reverse xs) ≡ front xs
back_turned [] = refl
back_turned (x ∷ xs) = ap back (last_turned x xs) ∙ back_push x (reverse xs)

pub end_turned : (side : Side) (xs : List ℕ) → end_of (opposite side) xs ≡ end_of side (reverse xs)
end_turned Front xs = ap back (sym (reverse-reverse xs)) ∙ back_turned (reverse xs)
end_turned Rear xs = sym (back_turned xs)

-- beside an entry, and round the ends
pub near_turned : (side : Side) (before behind : List ℕ) → near (opposite side) (reverse behind) (reverse before) ≡ near side before behind
near_turned Front before behind = sym (end_turned Front before)
near_turned Rear before behind = back_turned behind

pub round_turned : (side : Side) (s : ℕ) (before behind : List ℕ) → near_round (opposite side) s (reverse behind) (reverse before) ≡ near_round side s before behind
round_turned Front s before behind =
    ap (λ l. front (l ++ s ∷ [])) (sym (reverse-append behind before))
    ∙ ap front (sym (last_turned s (behind ++ before)))
    ∙ sym (end_turned Front (s ∷ behind ++ before))
round_turned Rear s before behind =
    ap (λ l. back (s ∷ l)) (sym (reverse-append behind before))
    ∙ ap back (sym (first_turned s (behind ++ before)))
    ∙ back_turned (behind ++ before ++ s ∷ [])

module _ {X : Type 0} where
  pub serials_join : (ps qs : List (ℕ × X)) → serials (ps ++ qs) ≡ serials ps ++ serials qs
  serials_join [] qs = refl
  serials_join (p ∷ ps) qs = ap (λ l. p.0 ∷ l) (serials_join ps qs)

  pub serials_turned : (ps : List (ℕ × X)) → serials (reverse ps) ≡ reverse (serials ps)
  serials_turned [] = refl
  serials_turned (p ∷ ps) =
      ap serials (last_turned p ps) ∙ serials_join (reverse ps) (p ∷ [])
      ∙ ap (λ l. l ++ p.0 ∷ []) (serials_turned ps) ∙ sym (last_turned p.0 (serials ps))

  -- the value of a serial in two lists
  value_right : (s : ℕ) (ps qs : List (ℕ × X)) → value_at s ps ≡ None → value_at s (ps ++ qs) ≡ value_at s qs
  value_right s [] qs e = refl
  value_right s (p ∷ ps) qs e = elim (eqb_tells p.0 s) [
    | inl w ↦ absurd (some_none p.1 (sym (ap (λ b. cond b (Some p.1) (value_at s ps)) w.0) ∙ e))
    | inr w ↦ ap (λ b. cond b (Some p.1) (value_at s (ps ++ qs))) w.0 ∙ value_right s ps qs (sym (ap (λ b. cond b (Some p.1) (value_at s ps)) w.0) ∙ e)
  ]

  value_left : (s : ℕ) (x : X) (ps qs : List (ℕ × X)) → value_at s ps ≡ Some x → value_at s (ps ++ qs) ≡ Some x
  value_left s x [] qs e = absurd (some_none x (sym e))
  value_left s x (p ∷ ps) qs e = elim (eqb_tells p.0 s) [
    | inl w ↦ ap (λ b. cond b (Some p.1) (value_at s (ps ++ qs))) w.0 ∙ sym (ap (λ b. cond b (Some p.1) (value_at s ps)) w.0) ∙ e
    | inr w ↦ ap (λ b. cond b (Some p.1) (value_at s (ps ++ qs))) w.0 ∙ value_left s x ps qs (sym (ap (λ b. cond b (Some p.1) (value_at s ps)) w.0) ∙ e)
  ]

  pub lacks_turned : (s : ℕ) (ps : List (ℕ × X)) → value_at s ps ≡ None → value_at s (reverse ps) ≡ None
  lacks_turned s [] e = e
  lacks_turned s (p ∷ ps) e = elim (eqb_tells p.0 s) [
    | inl w ↦ absurd (some_none p.1 (sym (ap (λ b. cond b (Some p.1) (value_at s ps)) w.0) ∙ e))
    | inr w ↦
        ap (value_at s) (last_turned p ps)
        ∙ value_right s (reverse ps) (p ∷ []) (lacks_turned s ps (sym (ap (λ b. cond b (Some p.1) (value_at s ps)) w.0) ∙ e))
        ∙ ap (λ b. cond b (Some p.1) None) w.0
  ]

  value_out : (s : ℕ) (ps : List (ℕ × X)) → (IsIn s (serials ps) → ⊥) → value_at s ps ≡ None
  value_out s [] out = refl
  value_out s (p ∷ ps) out = elim (eqb_tells p.0 s) [
    | inl w ↦ absurd (out (inl (sym w.1)))
    | inr w ↦ ap (λ b. cond b (Some p.1) (value_at s ps)) w.0 ∙ value_out s ps (λ i. out (inr i))
  ]

  pub holds_turned : (s : ℕ) (x : X) (ps : List (ℕ × X)) → IsDistinct (serials ps) → value_at s ps ≡ Some x → value_at s (reverse ps) ≡ Some x
  holds_turned s x [] d e = e
  holds_turned s x (p ∷ ps) d e = ap (value_at s) (last_turned p ps) ∙ elim (eqb_tells p.0 s) [
    | inl w ↦
        value_right s (reverse ps) (p ∷ []) (lacks_turned s ps (value_out s ps (λ i. d.0 (subst (λ k. IsIn k (serials ps)) (sym w.1) i))))
        ∙ ap (λ b. cond b (Some p.1) None) w.0 ∙ sym (ap (λ b. cond b (Some p.1) (value_at s ps)) w.0) ∙ e
    | inr w ↦ value_left s x (reverse ps) (p ∷ []) (holds_turned s x ps d.1 (sym (ap (λ b. cond b (Some p.1) (value_at s ps)) w.0) ∙ e))
  ]

  there : (s : ℕ) (o : Option X) → (o ≡ None → ⊥) → (x : X) × (o ≡ Some x)
  there s None out = absurd (out refl)
  there s (Some x) out = (x, refl)

  -- an item that has a value has one in the reverse, also where serials aren't distinct
  pub has_turned : (s : ℕ) (x : X) (ps : List (ℕ × X)) → value_at s ps ≡ Some x → (y : X) × (value_at s (reverse ps) ≡ Some y)
  has_turned s x ps e = there s (value_at s (reverse ps)) (λ none.
      some_none x (sym e ∙ ap (value_at s) (sym (reverse-reverse ps)) ∙ lacks_turned s (reverse ps) none))

  without_join : (s : ℕ) (ps qs : List (ℕ × X)) → pairs_without s (ps ++ qs) ≡ pairs_without s ps ++ pairs_without s qs
  without_join s [] qs = refl
  without_join s (p ∷ ps) qs =
      let step : (b : Bool) → cond b (pairs_without s ps ++ pairs_without s qs) (p ∷ (pairs_without s ps ++ pairs_without s qs)) ≡ cond b (pairs_without s ps) (p ∷ pairs_without s ps) ++ pairs_without s qs
      = λ b. elim b as (λ v. cond v (pairs_without s ps ++ pairs_without s qs) (p ∷ (pairs_without s ps ++ pairs_without s qs)) ≡ cond v (pairs_without s ps) (p ∷ pairs_without s ps) ++ pairs_without s qs) [ true ↦ refl | false ↦ refl ] in
      ap (λ l. cond (p.0 == s) l (p ∷ l)) (without_join s ps qs) ∙ step (p.0 == s)

  drop_turned : (b : Bool) (p : ℕ × X) (ps : List (ℕ × X)) → reverse ps ++ cond b [] (p ∷ []) ≡ reverse (cond b ps (p ∷ ps))
  drop_turned true p ps = append-nil (reverse ps)
  drop_turned false p ps = sym (last_turned p ps)

  pub without_turned : (s : ℕ) (ps : List (ℕ × X)) → pairs_without s (reverse ps) ≡ reverse (pairs_without s ps)
  without_turned s [] = refl
  without_turned s (p ∷ ps) =
      ap (pairs_without s) (last_turned p ps) ∙ without_join s (reverse ps) (p ∷ [])
      ∙ ap (λ l. l ++ cond (p.0 == s) [] (p ∷ [])) (without_turned s ps) ∙ drop_turned (p.0 == s) p (pairs_without s ps)

  with_join : (s : ℕ) (x : X) (ps qs : List (ℕ × X)) → pairs_with s x (ps ++ qs) ≡ pairs_with s x ps ++ pairs_with s x qs
  with_join s x [] qs = refl
  with_join s x (p ∷ ps) qs =
      let step : (b : Bool) → cond b ((s, x) ∷ (pairs_with s x ps ++ pairs_with s x qs)) (p ∷ (pairs_with s x ps ++ pairs_with s x qs)) ≡ cond b ((s, x) ∷ pairs_with s x ps) (p ∷ pairs_with s x ps) ++ pairs_with s x qs
      = λ b. elim b as (λ v. cond v ((s, x) ∷ (pairs_with s x ps ++ pairs_with s x qs)) (p ∷ (pairs_with s x ps ++ pairs_with s x qs)) ≡ cond v ((s, x) ∷ pairs_with s x ps) (p ∷ pairs_with s x ps) ++ pairs_with s x qs) [ true ↦ refl | false ↦ refl ] in
      ap (λ l. cond (p.0 == s) ((s, x) ∷ l) (p ∷ l)) (with_join s x ps qs) ∙ step (p.0 == s)

  give_turned : (b : Bool) (p q : ℕ × X) (ps : List (ℕ × X)) → reverse ps ++ cond b (q ∷ []) (p ∷ []) ≡ reverse (cond b (q ∷ ps) (p ∷ ps))
  give_turned true p q ps = sym (last_turned q ps)
  give_turned false p q ps = sym (last_turned p ps)

  pub with_turned : (s : ℕ) (x : X) (ps : List (ℕ × X)) → pairs_with s x (reverse ps) ≡ reverse (pairs_with s x ps)
  with_turned s x [] = refl
  with_turned s x (p ∷ ps) =
      ap (pairs_with s x) (last_turned p ps) ∙ with_join s x (reverse ps) (p ∷ [])
      ∙ ap (λ l. l ++ cond (p.0 == s) ((s, x) ∷ []) (p ∷ [])) (with_turned s x ps) ∙ give_turned (p.0 == s) p (s, x) (pairs_with s x ps)

  -- the pairs before and behind a serial
  record Stands (s : ℕ) (ps : List (ℕ × X)) : Type 0 where
    pub before : List (ℕ × X)
    pub pair : ℕ × X
    pub behind : List (ℕ × X)
    pub is : ps ≡ before ++ pair ∷ behind
    pub named : pair.0 ≡ s
    pub out : IsIn s (serials before ++ serials behind) → ⊥

  stands : (s : ℕ) (x : X) (ps : List (ℕ × X)) → IsDistinct (serials ps) → value_at s ps ≡ Some x → Stands s ps
  stands s x [] d e = absurd (some_none x (sym e))
  stands s x (p ∷ ps) d e = elim (eqb_tells p.0 s) [
    | inl w ↦ record { before = []; pair = p; behind = ps; is = refl; named = w.1; out = λ i. d.0 (subst (λ k. IsIn k (serials ps)) (sym w.1) i) }
    | inr w ↦
        let c = stands s x ps d.1 (sym (ap (λ b. cond b (Some p.1) (value_at s ps)) w.0) ∙ e) in
        record {
          before = p ∷ c.before;
          pair = c.pair;
          behind = c.behind;
          is = ap (λ l. p ∷ l) c.is;
          named = c.named;
          out = λ i. elim i [ inl f ↦ w.1 (sym f) | inr j ↦ c.out j ];
        }
  ]

  cut_beside : (side : Side) (s : ℕ) (p q : ℕ × X) (ps qs : List (ℕ × X)) → p.0 ≡ s → (IsIn s (serials ps) → ⊥) → pairs_beside side s q (ps ++ p ∷ qs) ≡ ps ++ both_of side p q qs
  cut_beside side s p q [] qs e out = pairs_more side s q p qs ∙ elim (eqb_tells p.0 s) [ inl w ↦ ap (λ b. cond b (both_of side p q qs) (p ∷ pairs_beside side s q qs)) w.0 | inr w ↦ absurd (w.1 e) ]
  cut_beside side s p q (r ∷ ps) qs e out = pairs_more side s q r (ps ++ p ∷ qs) ∙ elim (eqb_tells r.0 s) [
    | inl w ↦ absurd (out (inl (sym w.1)))
    | inr w ↦ ap (λ b. cond b (both_of side r q (ps ++ p ∷ qs)) (r ∷ pairs_beside side s q (ps ++ p ∷ qs))) w.0 ∙ ap (λ l. r ∷ l) (cut_beside side s p q ps qs e (λ i. out (inr i)))
  ]

  module _ (s : ℕ) (x : X) (q : ℕ × X) (ps : List (ℕ × X)) (d : IsDistinct (serials ps)) (e : value_at s ps ≡ Some x) where
    cut : Stands s ps
    cut = stands s x ps d e

    out_before : IsIn s (serials cut.before) → ⊥
    out_before i = cut.out (in_left s (serials cut.before) (serials cut.behind) i)

    out_behind : IsIn s (serials (reverse cut.behind)) → ⊥
    out_behind i = cut.out (in_right s (serials cut.before) (serials cut.behind) (in_turned_back s (serials cut.behind) (subst (IsIn s) (serials_turned cut.behind) i)))

    around : reverse ps ≡ reverse cut.behind ++ cut.pair ∷ reverse cut.before
    around = ap reverse cut.is ∙ cut_turned cut.pair cut.before cut.behind

    pub beside_turned : (side : Side) → reverse (pairs_beside (opposite side) s q ps) ≡ pairs_beside side s q (reverse ps)
    beside_turned side =
        ap (λ l. reverse (pairs_beside (opposite side) s q l)) cut.is
        ∙ ap reverse (cut_beside (opposite side) s cut.pair q cut.before cut.behind cut.named out_before)
        ∙ both_turned side cut.pair q cut.before cut.behind
        ∙ sym (cut_beside side s cut.pair q (reverse cut.behind) (reverse cut.before) cut.named out_behind)
        ∙ ap (pairs_beside side s q) (sym around)
