-- Filters of the numbers below n.
use Rattle.std.proofs.Common.{◌≡◌, ℕ, zero, suc, ◌+◌, ◌<◌, Bool, true, false, not, cond, List, [], ◌∷◌, ◌++◌, length, get_or, replicate, refl, sym, ◌∙◌, ap, subst, All, arith}
use Rattle.std.specs.List.{filter, range_with_len, Contains, count_by}
use Rattle.std.specs.List.Sorted.{IsStrictlyIncreasing}
use Rattle.std.proofs.lemmas.Bool.{cond-true, cond-false}
use Rattle.std.proofs.lemmas.List.{append-nil, map-id}
use Rattle.std.proofs.lemmas.List.Elements.{All-from_get_or, All-filter, All-contains, filter_passes}
use Rattle.std.proofs.lemmas.List.FromFn.{length-range_with_len, get_or-range_with_len, filter_of_map_range_with_len_more}
use Rattle.std.proofs.lemmas.List.Kept.{IsStrictlyIncreasing-filter}
use Rattle.std.proofs.lemmas.List.Sums.{sum_by-cons}

keeps : (b : Bool) (y : ℕ) (zs : List ℕ) (x : ℕ) → Contains zs x → Contains (cond b (y ∷ zs) zs) x
keeps true y zs x c = let h : c.0 < length zs = c.1 in (suc c.0, omega arith, c.2)
keeps false y zs x c = c

in_filter : (p : ℕ → Bool) (xs : List ℕ) (k x : ℕ) → k < length xs → get_or xs k x ≡ x → p x ≡ true → Contains (filter p xs) x
in_filter p [] k x h e t = absurd (omega arith)
in_filter p (y ∷ ys) zero x h e t =
    let P : Bool → Type 0 = λ b. Contains (cond b (y ∷ filter p ys) (filter p ys)) x in
    subst P (sym (ap p e ∙ t)) (0, omega arith, e)
in_filter p (y ∷ ys) (suc k) x h e t = keeps (p y) y (filter p ys) x (in_filter p ys k x (omega arith) e t)

pub numbers_below : (n : ℕ) → All (λ v. v < n) (range_with_len 0 n)
numbers_below n = All-from_get_or (λ v. v < n) (range_with_len 0 n) 0
    (λ i h. let l : i < n = omega (arith, length-range_with_len 0 n) in
    let e : get_or (range_with_len 0 n) i 0 ≡ 0 + i = get_or-range_with_len 0 n i 0 l in
    omega arith)

pub filter_has : (p : ℕ → Bool) (n x : ℕ) → x < n → p x ≡ true → Contains (filter p (range_with_len 0 n)) x
filter_has p n x h t =
    let e : get_or (range_with_len 0 n) x x ≡ 0 + x = get_or-range_with_len 0 n x x h in
    in_filter p (range_with_len 0 n) x x (omega (arith, length-range_with_len 0 n)) (omega arith) t

pub filter_below : (p : ℕ → Bool) (n : ℕ) → All (λ v. v < n) (filter p (range_with_len 0 n))
filter_below p n = All-filter p (λ v. v < n) (range_with_len 0 n) (numbers_below n)

pub filter_only : (p : ℕ → Bool) (n x : ℕ) → Contains (filter p (range_with_len 0 n)) x → p x ≡ true
filter_only p n x c = All-contains (λ v. p v ≡ true) (filter p (range_with_len 0 n)) x (filter_passes p (range_with_len 0 n)) c

pub filter_rises : (p : ℕ → Bool) (n : ℕ) → IsStrictlyIncreasing (filter p (range_with_len 0 n))
filter_rises p n = IsStrictlyIncreasing-filter p (range_with_len 0 n)
    (λ k h. let l : k + 1 < n = omega (arith, length-range_with_len 0 n) in
    let a : get_or (range_with_len 0 n) k 0 ≡ 0 + k = get_or-range_with_len 0 n k 0 (omega arith) in
    let b : get_or (range_with_len 0 n) (k + 1) 0 ≡ 0 + (k + 1) = get_or-range_with_len 0 n (k + 1) 0 l in
    omega arith)

filter_more : (p : ℕ → Bool) (k : ℕ) → filter p (range_with_len 0 (k + 1)) ≡ filter p (range_with_len 0 k) ++ cond (p k) (k ∷ []) []
filter_more p k = simp map-id at (filter_of_map_range_with_len_more p (λ (x : ℕ). x) 0 k k (omega arith))

pub filter_more_yes : (p : ℕ → Bool) (k : ℕ) → p k ≡ true → filter p (range_with_len 0 (k + 1)) ≡ filter p (range_with_len 0 k) ++ k ∷ []
filter_more_yes p k t = filter_more p k ∙ ap (λ (xs : List ℕ). filter p (range_with_len 0 k) ++ xs) (cond-true (p k) (k ∷ []) [] t)

pub filter_more_no : (p : ℕ → Bool) (k : ℕ) → p k ≡ false → filter p (range_with_len 0 (k + 1)) ≡ filter p (range_with_len 0 k)
filter_more_no p k t =
    filter_more p k ∙ ap (λ (xs : List ℕ). filter p (range_with_len 0 k) ++ xs) (cond-false (p k) (k ∷ []) [] t) ∙ append-nil (filter p (range_with_len 0 k))

pub all_false : (n v : ℕ) → get_or (replicate n false) v false ≡ false
all_false zero v = refl
all_false (suc n) zero = refl
all_false (suc n) (suc v) = all_false n v

pub count_false : (n : ℕ) → count_by not (replicate n false) ≡ n
count_false zero = refl
count_false (suc n) =
    let e : count_by not (false ∷ replicate n false) ≡ 1 + count_by not (replicate n false) = sum_by-cons (λ (b : Bool). cond (not b) 1 0) false (replicate n false) in
    let i = count_false n in
    e ∙ (let q : 1 + count_by not (replicate n false) ≡ suc n = omega arith in q)
