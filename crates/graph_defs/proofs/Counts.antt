-- How often a number stands in a list.
use Rattle.std.proofs.Common.{◌≡◌, inl, inr, ℕ, zero, suc, ◌+◌, ◌<◌, ◌≤◌, Bool, cond, eqb, List, [], ◌∷◌, ◌++◌, length, take, get_or, refl, sym, ap, subst, arith}
use Rattle.std.proofs.lemmas.Bool.{cases_eq, eq-eqb, ne_eqb}
use Rattle.graph_defs.specs.Count.{times, times_in}

pub times_append : (x : ℕ) (xs ys : List ℕ) → times x (xs ++ ys) ≡ times x xs + times x ys
times_append x [] ys = omega arith
times_append x (y ∷ xs) ys = let i = times_append x xs ys in omega arith

-- the first entry, which is x or isn't
pub times_same : (x y : ℕ) (xs : List ℕ) → x ≡ y → times x (y ∷ xs) ≡ times x xs + 1
times_same x y xs e =
    let c : cond {A = ℕ} (eqb x y) 1 0 ≡ 1 = ap (λ (b : Bool). cond {A = ℕ} b 1 0) (eq-eqb x y e) in
    omega arith

pub times_other : (x y : ℕ) (xs : List ℕ) → (x ≡ y → ⊥) → times x (y ∷ xs) ≡ times x xs
times_other x y xs ne =
    let c : cond {A = ℕ} (eqb x y) 1 0 ≡ 0 = ap (λ (b : Bool). cond {A = ℕ} b 1 0) (ne_eqb x y ne) in
    omega arith

-- it stands at a place, and what stands at a place is counted
pub times_has : (x : ℕ) (xs : List ℕ) → 1 ≤ times x xs → (k : ℕ) × (k < length xs) × (get_or xs k 0 ≡ x)
times_has x [] h = absurd (omega arith)
times_has x (y ∷ xs) h = elim (cases_eq x y) [
  | inl e ↦ (0, omega arith, sym e)
  | inr ne ↦ (let t = times_other x y xs ne in
      let r = times_has x xs (omega arith) in
      let l : r.0 < length xs = r.1 in
      (suc r.0, omega arith, r.2))
]

pub has_times : (x : ℕ) (xs : List ℕ) (k : ℕ) → k < length xs → get_or xs k 0 ≡ x → 1 ≤ times x xs
has_times x [] k l e = absurd (omega arith)
has_times x (y ∷ xs) zero l e = let t = times_same x y xs (sym e) in omega arith
has_times x (y ∷ xs) (suc k) l e = let t = has_times x xs k (omega arith) e in omega arith

-- the places of what stands once are one place
pub same_place : (x : ℕ) (xs : List ℕ) (i j : ℕ) → times x xs ≤ 1 → i < length xs → j < length xs → get_or xs i 0 ≡ x → get_or xs j 0 ≡ x → i ≡ j
same_place x [] i j h li lj ei ej = absurd (omega arith)
same_place x (y ∷ xs) zero zero h li lj ei ej = refl
same_place x (y ∷ xs) zero (suc j) h li lj ei ej =
    let t = times_same x y xs (sym ei) in
    let u = has_times x xs j (omega arith) ej in
    absurd (omega arith)
same_place x (y ∷ xs) (suc i) zero h li lj ei ej =
    let t = times_same x y xs (sym ej) in
    let u = has_times x xs i (omega arith) ei in
    absurd (omega arith)
same_place x (y ∷ xs) (suc i) (suc j) h li lj ei ej =
    ap suc (same_place x xs i j (omega arith) (omega arith) (omega arith) ei ej)

-- one entry more of a front
more_later : (x : ℕ) (y : ℕ) (xs : List ℕ) (k : ℕ) → times x (take (k + 1) xs) ≡ times x (take k xs) + cond {A = ℕ} (eqb x (get_or xs k 0)) 1 0
    → times x (take (suc k + 1) (y ∷ xs)) ≡ times x (take (suc k) (y ∷ xs)) + cond {A = ℕ} (eqb x (get_or xs k 0)) 1 0
more_later x y xs k h =
    let e : suc k + 1 ≡ suc (k + 1) = omega arith in
    let P : ℕ → Type 0 = λ j. times x (take j (y ∷ xs)) ≡ times x (take (suc k) (y ∷ xs)) + cond {A = ℕ} (eqb x (get_or xs k 0)) 1 0 in
    subst P (sym e) (omega arith)

pub times_more : (x : ℕ) (xs : List ℕ) (k : ℕ) → k < length xs → times x (take (k + 1) xs) ≡ times x (take k xs) + cond {A = ℕ} (eqb x (get_or xs k 0)) 1 0
times_more x [] k l = absurd (omega arith)
times_more x (y ∷ xs) zero l = omega arith
times_more x (y ∷ xs) (suc k) l = more_later x y xs k (times_more x xs k (omega arith))

pub times_take : (x : ℕ) (xs : List ℕ) (k : ℕ) → times x (take k xs) ≤ times x xs
times_take x [] zero = omega arith
times_take x [] (suc k) = omega arith
times_take x (y ∷ xs) zero = omega arith
times_take x (y ∷ xs) (suc k) = let t = times_take x xs k in omega arith

-- in rows
pub times_in_append : (x : ℕ) (rows more : List (List ℕ)) → times_in x (rows ++ more) ≡ times_in x rows + times_in x more
times_in_append x [] more = omega arith
times_in_append x (row ∷ rows) more = let i = times_in_append x rows more in omega arith
