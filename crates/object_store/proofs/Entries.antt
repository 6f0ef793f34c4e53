-- The entries of a finite map, as lists.
use Rattle.std.proofs.Common.{◌≡◌, suc, List, [], ◌∷◌, map, length, refl, sym, ap, ◌∙◌, arith}
use Rattle.std.specs.declared.cmp.Ordering.{Ordering}
use Rattle.std.specs.FinMap as finmap

none_long : {A : Type 0} (xs : List A) → length xs ≡ 0 → xs ≡ []
none_long [] e = refl
none_long (x ∷ xs) e = absurd (omega (arith, e))

module _ {K X : Type 0} (R : K → K → Ordering) where
  pub entries_empty : finmap.entries (finmap.empty {X = X} {R = R}) ≡ []
  entries_empty = none_long (finmap.entries (finmap.empty {X = X} {R = R})) (sym (finmap.len-entries (finmap.empty {X = X} {R = R})) ∙ finmap.len-empty R X)

pub length_of : {A B : Type 0} (f : A → B) (xs : List A) → length (map f xs) ≡ length xs
length_of f [] = refl
length_of f (x ∷ xs) = ap suc (length_of f xs)
