-- The number that digits write, one digit further on.
use Rattle.std.proofs.Common.{◌≡◌, ℕ, ◌+◌, ◌-◌, ◌*◌, ◌^◌, ◌<◌, Bool, true, false, List, length, get_or, take, refl, arith, [], ◌∷◌, not, ◌==◌, ◌&&◌, nat_le}
use Rattle.std.specs.Char.{is_ascii_digit, digit_value}
use Rattle.std.specs.List.{list_all}
use Rattle.std.specs.Str.Parse.{digits_value}
use Rattle.script_text.specs.Text.{is_item_number}
use Rattle.std.proofs.lemmas.Bool.Decides.{nat_tests}
use Rattle.std.proofs.lemmas.Grind.{pow_more}
use Rattle.std.proofs.lemmas.Str.Parse.{digits_value-take-le}
use Rattle.std.proofs.lemmas.Int.Digits.{digits_value_more}
use Rattle.std.proofs.lemmas.List.Folds.{list_all_at}

digit_at : (ds : List ℕ) (i : ℕ) → list_all is_ascii_digit ds ≡ true → i < length ds
    → is_ascii_digit (get_or ds i 0) ≡ true
digit_at ds i all h = by_test (is_ascii_digit (get_or ds i 0)) refl
  where
    by_test : (v : Bool) → is_ascii_digit (get_or ds i 0) ≡ v → v ≡ true
    by_test true e = refl
    by_test false e = let f : list_all is_ascii_digit ds
        ≡ false = list_all_at is_ascii_digit ds i 0 h e in cc

digit_value-is : (c : ℕ) → is_ascii_digit c ≡ true → (digit_value c ≡ c - 48) × (c - 48 < 10)
digit_value-is c e = grind (arith, nat_tests)

-- the value of one digit more, and its bound
pub value_more : (ds : List ℕ) (i value : ℕ) → list_all is_ascii_digit ds ≡ true → i < length ds
    → value ≡ digits_value 10 (take i ds) → value < 10 ^ i
    → (value * 10 + (get_or ds i 0 - 48) ≡ digits_value 10 (take (i + 1) ds)) ×
    (value * 10 + (get_or ds i 0 - 48) < 10 ^ (i + 1))
value_more ds i value all h is small =
    let digit : (digit_value (get_or ds i 0) ≡ get_or ds i 0 - 48) ×
    (get_or ds i 0 - 48 < 10) = digit_value-is (get_or ds i 0) (digit_at ds i all h) in (
      omega (arith, digits_value_more 10 ds i h, digit.0, is),
      omega
          (arith, pow_more 10 i, digit.1, small),
    )

-- the first of two tests that both pass
pub first_true : (a b : Bool) → (a && b) ≡ true → a ≡ true
first_true true b e = refl
first_true false b e = cc

-- the second one
pub second_true : (a b : Bool) → (a && b) ≡ true → b ≡ true
second_true true b e = e
second_true false b e = cc

-- a digit that isn't 0
digit-positive : (c : ℕ) → is_ascii_digit c ≡ true → not (c == 48) ≡ true → 0 < digit_value c
digit-positive c digit e = grind (arith, nat_tests)

-- digits that don't begin with 0 write a number that isn't 0
value-positive : (digits : List ℕ) → nat_le 1 (length digits) ≡ true
    → not (get_or digits 0 0 == 48) ≡ true → list_all is_ascii_digit digits ≡ true
    → 0 < digits_value 10 digits
value-positive [] h first all = cc
value-positive (c ∷ cs) h first all =
    let positive : 0 < digit_value c = digit-positive c (first_true _ _ all) first in
    omega (arith, positive, digits_value-take-le 10 (c ∷ cs) 1 (omega arith))

-- the number of an item's name isn't 0
pub item-positive : (digits : List ℕ) → is_item_number digits ≡ true → 0 < digits_value 10 digits
item-positive digits e =
    let first : not (get_or digits 0 0 == 48) ≡ true = first_true _ _ (second_true _ _ e) in
    let all : list_all is_ascii_digit digits
    ≡ true = first_true _ _ (second_true _ _ (second_true _ _ e)) in
    value-positive digits (first_true _ _ (first_true _ _ e)) first all
