-- The order of the keys, where Has s k says that the item s has the key k.
use Rattle.std.specs.Prelude.{ℕ, ℤ, ◌≤ℤ◌, ◌<ℤ◌}

module _ (Has : ℕ → ℤ → Type 0) where
  -- P holds of each key
  abbrev pub EachKey : (ℤ → Type 0) → Type 0
  EachKey P = (t : ℕ) (q : ℤ) → Has t q → P q

  -- the item s has the key k, which is the least
  abbrev pub IsLeast : ℕ → ℤ → Type 0
  IsLeast s k = Has s k × EachKey (λ q. k ≤ℤ q)

  -- the item s has the key k, which is the greatest
  abbrev pub IsGreatest : ℕ → ℤ → Type 0
  IsGreatest s k = Has s k × EachKey (λ q. q ≤ℤ k)

  -- the item s has the key j, which is the least above k
  abbrev pub IsNextAfter : ℤ → ℕ → ℤ → Type 0
  IsNextAfter k s j = Has s j × (k <ℤ j) × EachKey (λ q. k <ℤ q → j ≤ℤ q)

  -- the item s has the key j, which is the greatest below k
  abbrev pub IsNextBefore : ℤ → ℕ → ℤ → Type 0
  IsNextBefore k s j = Has s j × (j <ℤ k) × EachKey (λ q. q <ℤ k → q ≤ℤ j)

  -- no key is above k
  abbrev pub IsLastUpTo : ℤ → Type 0
  IsLastUpTo k = EachKey (λ q. q ≤ℤ k)

  -- no key is below k
  abbrev pub IsFirstFrom : ℤ → Type 0
  IsFirstFrom k = EachKey (λ q. k ≤ℤ q)
