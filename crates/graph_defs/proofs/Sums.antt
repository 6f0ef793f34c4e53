-- Sums over the numbers below a number, and products of integers.
use Rattle.std.proofs.Common.{◌≡◌, ◌⊎◌, inl, inr, ℕ, zero, suc, ◌+◌, ◌*◌, ◌<◌, ◌≤◌, ℤ, pos, ◌+ℤ◌, ◌-ℤ◌, ◌*ℤ◌, ◌≤ℤ◌, refl, sym, ap, subst, arith}
use Rattle.std.proofs.lemmas.Bool.{cases_eq}
use borrow.Author.Differences.{up, down, ints}
use Rattle.graph_defs.specs.Sum.{sum_below, total_below}

-- ---- integers
pub sum_same : (f g : ℕ → ℤ) (k : ℕ) → ((i : ℕ) → i < k → f i ≡ g i) → sum_below f k ≡ sum_below g k
sum_same f g zero h = refl
sum_same f g (suc k) h =
    let i = sum_same f g k (λ i l. h i (omega arith)) in
    let e = h k (omega arith) in
    omega (arith, ints)

pub sum_le : (f g : ℕ → ℤ) (k : ℕ) → ((i : ℕ) → i < k → f i ≤ℤ g i) → sum_below f k ≤ℤ sum_below g k
sum_le f g zero h = omega (arith, ints)
sum_le f g (suc k) h =
    let i = sum_le f g k (λ i l. h i (omega arith)) in
    let e = h k (omega arith) in
    omega (arith, ints)

pub sum_add : (f g : ℕ → ℤ) (k : ℕ) → sum_below (λ i. f i +ℤ g i) k ≡ (sum_below f k +ℤ sum_below g k)
sum_add f g zero = omega (arith, ints)
sum_add f g (suc k) = let i = sum_add f g k in omega (arith, ints)

pub sum_sub : (f g : ℕ → ℤ) (k : ℕ) → sum_below (λ i. f i -ℤ g i) k ≡ (sum_below f k -ℤ sum_below g k)
sum_sub f g zero = omega (arith, ints)
sum_sub f g (suc k) = let i = sum_sub f g k in omega (arith, ints)

pub sum_zero : (f : ℕ → ℤ) (k : ℕ) → ((i : ℕ) → i < k → f i ≡ pos 0) → sum_below f k ≡ pos 0
sum_zero f zero h = refl
sum_zero f (suc k) h =
    let i = sum_zero f k (λ i l. h i (omega arith)) in
    let e = h k (omega arith) in
    omega (arith, ints)

only_cases : (f : ℕ → ℤ) (k s : ℕ) → (k ≡ s) ⊎ (k ≡ s → ⊥) → s < suc k → ((i : ℕ) → i < suc k → (i ≡ s → ⊥) → f i ≡ pos 0)
    → (s < k → sum_below f k ≡ f s) → sum_below f (suc k) ≡ f s
only_cases f k s (inl e) l h before =
    let z = sum_zero f k (λ i m. h i (omega arith) (λ d. absurd (omega arith))) in
    let v : f k ≡ f s = ap f e in
    omega (arith, ints)
only_cases f k s (inr ne) l h before =
    let p : s < k = elim (cases_eq k s) [ inl e ↦ absurd (ne e) | inr d ↦ omega arith ] in
    let b = before p in
    let z = h k (omega arith) ne in
    omega (arith, ints)

-- all terms but one are 0
pub sum_only : (f : ℕ → ℤ) (k s : ℕ) → s < k → ((i : ℕ) → i < k → (i ≡ s → ⊥) → f i ≡ pos 0) → sum_below f k ≡ f s
sum_only f zero s l h = absurd (omega arith)
sum_only f (suc k) s l h = only_cases f k s (cases_eq k s) l h (λ p. sum_only f k s p (λ i m ne. h i (omega arith) ne))

-- one number more, where it is written as a sum
pub sum_more : (f : ℕ → ℤ) (k : ℕ) → sum_below f (k + 1) ≡ (sum_below f k +ℤ f k)
sum_more f k =
    let e : k + 1 ≡ suc k = omega arith in
    let P : ℕ → Type 0 = λ j. sum_below f j ≡ (sum_below f k +ℤ f k) in
    subst P (sym e) refl

-- ---- numbers of at least 0
pub total_same : (f g : ℕ → ℕ) (k : ℕ) → ((i : ℕ) → i < k → f i ≡ g i) → total_below f k ≡ total_below g k
total_same f g zero h = refl
total_same f g (suc k) h =
    let i = total_same f g k (λ i l. h i (omega arith)) in
    let e = h k (omega arith) in
    omega arith

pub total_le : (f g : ℕ → ℕ) (k : ℕ) → ((i : ℕ) → i < k → f i ≤ g i) → total_below f k ≤ total_below g k
total_le f g zero h = omega arith
total_le f g (suc k) h =
    let i = total_le f g k (λ i l. h i (omega arith)) in
    let e = h k (omega arith) in
    omega arith

pub total_add : (f g : ℕ → ℕ) (k : ℕ) → total_below (λ i. f i + g i) k ≡ total_below f k + total_below g k
total_add f g zero = refl
total_add f g (suc k) = let i = total_add f g k in omega arith

pub total_zero : (f : ℕ → ℕ) (k : ℕ) → ((i : ℕ) → i < k → f i ≡ 0) → total_below f k ≡ 0
total_zero f zero h = refl
total_zero f (suc k) h =
    let i = total_zero f k (λ i l. h i (omega arith)) in
    let e = h k (omega arith) in
    omega arith

total_only_cases : (f : ℕ → ℕ) (k s : ℕ) → (k ≡ s) ⊎ (k ≡ s → ⊥) → s < suc k → ((i : ℕ) → i < suc k → (i ≡ s → ⊥) → f i ≡ 0)
    → (s < k → total_below f k ≡ f s) → total_below f (suc k) ≡ f s
total_only_cases f k s (inl e) l h before =
    let z = total_zero f k (λ i m. h i (omega arith) (λ d. absurd (omega arith))) in
    let v : f k ≡ f s = ap f e in
    omega arith
total_only_cases f k s (inr ne) l h before =
    let p : s < k = elim (cases_eq k s) [ inl e ↦ absurd (ne e) | inr d ↦ omega arith ] in
    let b = before p in
    let z = h k (omega arith) ne in
    omega arith

pub total_only : (f : ℕ → ℕ) (k s : ℕ) → s < k → ((i : ℕ) → i < k → (i ≡ s → ⊥) → f i ≡ 0) → total_below f k ≡ f s
total_only f zero s l h = absurd (omega arith)
total_only f (suc k) s l h = total_only_cases f k s (cases_eq k s) l h (λ p. total_only f k s p (λ i m ne. h i (omega arith) ne))

pub total_more : (f : ℕ → ℕ) (k : ℕ) → total_below f (k + 1) ≡ total_below f k + f k
total_more f k =
    let e : k + 1 ≡ suc k = omega arith in
    let P : ℕ → Type 0 = λ j. total_below f j ≡ total_below f k + f k in
    subst P (sym e) refl

-- ---- products of integers, each written as the difference of two numbers
pub mul_add : (a b c : ℤ) → (a *ℤ (b +ℤ c)) ≡ ((a *ℤ b) +ℤ (a *ℤ c))
mul_add a b c =
    let s : up (b +ℤ c) + (down b + down c) ≡ (up b + up c) + down (b +ℤ c) = omega (arith, ints) in
    let e : up a * (up (b +ℤ c) + (down b + down c)) ≡ up a * ((up b + up c) + down (b +ℤ c)) = ap (λ (x : ℕ). up a * x) s in
    let f : down a * (up (b +ℤ c) + (down b + down c)) ≡ down a * ((up b + up c) + down (b +ℤ c)) = ap (λ (x : ℕ). down a * x) s in
    omega (arith, ints)

pub mul_comm : (a b : ℤ) → (a *ℤ b) ≡ (b *ℤ a)
mul_comm a b = omega (arith, ints)

pub mul_sub : (a b c : ℤ) → (a *ℤ (b -ℤ c)) ≡ ((a *ℤ b) -ℤ (a *ℤ c))
mul_sub a b c =
    let e = mul_add a (b -ℤ c) c in
    let s : ((b -ℤ c) +ℤ c) ≡ b = omega (arith, ints) in
    let p : (a *ℤ ((b -ℤ c) +ℤ c)) ≡ (a *ℤ b) = ap (λ (x : ℤ). a *ℤ x) s in
    omega (arith, ints)
