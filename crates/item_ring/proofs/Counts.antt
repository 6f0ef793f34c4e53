-- A list of different numbers below n is at most n long.
use Rattle.std.proofs.Common.{◌≡◌, ℕ, ◌<◌, ◌≤◌, ◌||◌, true, false, List, [], ◌∷◌, length, sym, ap, ◌∙◌, inl, inr, eqb}
use Rattle.std.proofs.lemmas.Bool.Decides.{eqb_tells}
use Rattle.std.proofs.lemmas.Map.Steps.{length-le_from_distinct_below}
use Rattle.std.specs.List.{list_any, AllByRecursion}
use Rattle.std.specs.List as list
use Rattle.item_ring.specs.RingLists.{IsIn, IsDistinct}

any_in : (q : ℕ) (xs : List ℕ) → list_any (eqb q) xs ≡ true → IsIn q xs
any_in q [] e = cc
any_in q (x ∷ xs) e = elim (eqb_tells q x) [
  | inl t ↦ inl t.1
  | inr f ↦ inr (any_in q xs (sym (ap (λ b. b || list_any (eqb q) xs) f.0) ∙ e))
]

all_differ : (x : ℕ) (xs : List ℕ) → (IsIn x xs → ⊥) → AllByRecursion (λ y. eqb x y ≡ false) xs
all_differ x [] out = tt
all_differ x (y ∷ ys) out = elim (eqb_tells x y) [
  | inl t ↦ absurd (out (inl t.1))
  | inr f ↦ (f.0, all_differ x ys (λ i. out (inr i)))
]

std_distinct : (xs : List ℕ) → IsDistinct xs → list.IsDistinct eqb xs
unfolding list.IsDistinct
std_distinct [] d = tt
std_distinct (x ∷ xs) d = (all_differ x xs d.0, std_distinct xs d.1)

pub few : (xs : List ℕ) (n : ℕ) → IsDistinct xs → ((q : ℕ) → IsIn q xs → q < n) → length xs ≤ n
few xs n d below = length-le_from_distinct_below xs n (std_distinct xs d) (λ q e. below q (any_in q xs e))
