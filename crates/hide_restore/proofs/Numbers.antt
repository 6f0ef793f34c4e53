-- The places of numbers in a list, and a table of them.
use Rattle.std.proofs.Common.{All, ◌≡◌, ℕ, zero, suc, ◌+◌, ◌<◌, ◌≤◌, cond, List, [], ◌∷◌, length, get_or, set, refl, sym, ap, subst, ◌∙◌, inl, inr, arith, length-set, get_or-set_same, get_or-set_other}
use Rattle.std.proofs.lemmas.Bool.{cases_eq}
use Rattle.graph_state.specs.Names.{Has, IsOnce}
use Rattle.graph_state.proofs.Same.{nat_tells}
use Rattle.hide_restore.specs.Net.{place_of, HavePlaces, ArePlaces}

pub has_at : {X : Type 0} (xs : List X) (i : ℕ) (d : X) → i < length xs → Has (get_or xs i d) xs
has_at [] i d lt = absurd (omega (arith, lt))
has_at (x ∷ xs) zero d lt = inl refl
has_at (x ∷ xs) (suc i) d lt = inr (has_at xs i d (omega (arith, lt)))

pub all_at : {X : Type 0} (P : X → Type 0) (xs : List X) → ((x : X) → Has x xs → P x) → All P xs
all_at P xs all i d lt = all (get_or xs i d) (has_at xs i d lt)

once_index : (xs : List ℕ) → IsOnce xs → (i j : ℕ) → i < length xs → j < length xs → get_or xs i 0 ≡ get_or xs j 0 → i ≡ j
once_index [] o i j a b e = absurd (omega (arith, a))
once_index (x ∷ xs) o zero zero a b e = refl
once_index (x ∷ xs) o zero (suc j) a b e = absurd (o.0 (subst (λ y. Has y xs) (sym e) (has_at xs j 0 (omega (arith, b)))))
once_index (x ∷ xs) o (suc i) zero a b e = absurd (o.0 (subst (λ y. Has y xs) e (has_at xs i 0 (omega (arith, a)))))
once_index (x ∷ xs) o (suc i) (suc j) a b e = ap suc (once_index xs o.1 i j (omega (arith, a)) (omega (arith, b)) e)

-- a number that is there stands at its place
pub place_here : (v : ℕ) (xs : List ℕ) → Has v xs → (place_of v xs < length xs) × (get_or xs (place_of v xs) 0 ≡ v)
place_here v [] i = absurd i
place_here v (x ∷ xs) i = elim (nat_tells x v) [
  | inl y ↦ subst (λ b. (cond b 0 (place_of v xs + 1) < length (x ∷ xs)) × (get_or (x ∷ xs) (cond b 0 (place_of v xs + 1)) 0 ≡ v)) (sym y.0) (omega arith, y.1)
  | inr n ↦
      let one : suc (place_of v xs) ≡ place_of v xs + 1 = omega arith in
      let r = place_here v xs (elim i [ inl e ↦ absurd (n.1 (sym e)) | inr j ↦ j ]) in
      subst (λ b. (cond b 0 (place_of v xs + 1) < length (x ∷ xs)) × (get_or (x ∷ xs) (cond b 0 (place_of v xs + 1)) 0 ≡ v)) (sym n.0) (omega (arith, r.0), subst (λ k. get_or (x ∷ xs) k 0 ≡ v) one r.1)
]

module _ (numbers : List ℕ) (most k : ℕ) (table : List ℕ) (h : HavePlaces numbers most k table) (once : IsOnce numbers) (below : All (λ v. v ≤ most) numbers) where
  number_below : (i : ℕ) → i < length numbers → get_or numbers i 0 < length table
  number_below i lt =
      let b = below i 0 lt in
      let l = h.long in
      omega (arith, b, l)

  pub table_more : k < length numbers → HavePlaces numbers most (k + 1) (set table (get_or numbers k 0) k)
  table_more lt = record {
    long = length-set table (get_or numbers k 0) k ∙ h.long;
    stand = λ i li. elim (cases_eq i k) [
      | inl e ↦ subst (λ j. get_or (set table (get_or numbers k 0) k) (get_or numbers j 0) 0 ≡ j) (sym e) (get_or-set_same table (get_or numbers k 0) k 0 (number_below k lt))
      | inr ne ↦
          let less : i < k = omega (arith, li, ne) in
          get_or-set_other table (get_or numbers k 0) (get_or numbers i 0) k 0 (λ e. ne (once_index numbers once i k (omega (arith, less, lt)) lt e)) ∙ h.stand i less
    ];
  }

  pub table_all : k ≡ length numbers → ArePlaces numbers table
  table_all e = record {
    below = number_below;
    stand = λ i li. h.stand i (omega (arith, e, li));
  }

-- what the table tells of a number that is there
pub record IsLooked (numbers table : List ℕ) (v : ℕ) : Type 0 where
  pub in_table : v < length table
  pub in_numbers : place_of v numbers < length numbers
  pub place : get_or table v 0 ≡ place_of v numbers
  pub number : get_or numbers (place_of v numbers) 0 ≡ v

pub looked : (numbers table : List ℕ) → ArePlaces numbers table → (v : ℕ) → Has v numbers → IsLooked numbers table v
looked numbers table a v i =
    let p = place_here v numbers i in
    record {
      in_table = subst (λ w. w < length table) p.1 (a.below (place_of v numbers) p.0);
      in_numbers = p.0;
      place = ap (λ w. get_or table w 0) (sym p.1) ∙ a.stand (place_of v numbers) p.0;
      number = p.1;
    }
