-- An item is named by a letter and its number in decimal digits, as replies print it.
use Rattle.std.proofs.Common.{◌≡◌, ℕ, ◌^◌, ◌<◌, ◌≤◌, ◌==◌, Bool, true, false, ◌&&◌, not, nat_le, nat_lt, if◌then◌else◌, List, [], ◌∷◌, length, get_or, Option, Some, None, refl, sym, ◌∙◌, ap, arith, rules, ◌≢◌, IfSome, IfNone, lit<, eqb-true}
use Rattle.std.specs.Char.{is_ascii_digit}
use Rattle.std.specs.Fmt.{decimal}
use Rattle.std.specs.List.{list_all}
use Rattle.std.specs.Str.Parse.{digits_value, IsNumeral}
use Rattle.std.proofs.lemmas.Bool.Decides.{nat_tests}
use Rattle.std.proofs.lemmas.Fmt.{decimal-digits_value, decimal_is_IsNumeral, first_decimal, length-decimal-le, decimal_nonempty}
use Rattle.std.proofs.lemmas.Str.Parse.{IsNumeralModel, numerals_by_value}
use Rattle.script_text.specs.Text.{is_item_number, item_number, IsItemName}
use Rattle.script_text.proofs.Numbers.{first_true, second_true, item-positive}

-- the test of digits is std's
own : IsNumeralModel (λ ds. list_all is_ascii_digit ds ≡ true) (digits_value 10)
own = numerals_by_value _ (search rules)

not_zero : (c : ℕ) → not (c == 48) ≡ true → c ≢ 48
not_zero c e f = grind (arith, nat_tests)

below : (m n : ℕ) → nat_lt m n ≡ true → m < n
below m n e = grind (arith, nat_tests)

at_least : (m n : ℕ) → nat_le m n ≡ true → m ≤ n
at_least m n e = grind (arith, nat_tests)

-- digits without a leading 0 are those that are printed of their value
as_printed : (digits : List ℕ) → list_all is_ascii_digit digits ≡ true → 1 ≤ length digits
    → get_or digits 0 0 ≢ 48 → digits_value 10 digits < 2 ^ 32
    → digits ≡ decimal (digits_value 10 digits)
as_printed digits all some first small = sym
    (decimal-digits_value own digits all some (λ zero. absurd (first zero)) (omega arith))

-- the digits that are read are those that are printed
printed : (digits : List ℕ) → is_item_number digits ≡ true
    → (digits_value 10 digits < 2 ^ 32) × (digits ≡ decimal (digits_value 10 digits))
printed digits e =
    let rest : (list_all is_ascii_digit digits && nat_lt (digits_value 10 digits) (2 ^ 32))
    ≡ true = second_true _ _ (second_true _ _ e) in
    let small : digits_value 10 digits < 2 ^ 32 = below (digits_value 10 digits) (2 ^ 32)
    (second_true _ _ rest) in
    let some : 1 ≤ length digits = at_least 1 (length digits) (first_true _ _ (first_true _ _ e)) in
    let first : get_or digits 0 0 ≢ 48 = not_zero (get_or digits 0 0)
    (first_true _ _ (second_true _ _ e)) in
    (small, as_printed digits (first_true _ _ rest) some first small)

both : (a b : Bool) → a ≡ true → b ≡ true → (a && b) ≡ true
both a b p q = rw (p, q) refl

tested_lt : (m n : ℕ) → m < n → nat_lt m n ≡ true
tested_lt m n h = grind (arith, nat_tests)

tested_le : (m n : ℕ) → m ≤ n → nat_le m n ≡ true
tested_le m n h = grind (arith, nat_tests)

tested_not_zero : (c : ℕ) → 48 < c → not (c == 48) ≡ true
tested_not_zero c h = grind (arith, nat_tests)

-- the digits that are printed are read
read : (number : ℕ) → 0 < number → number < 2 ^ 32
    → (is_item_number (decimal number) ≡ true) × (digits_value 10 (decimal number) ≡ number)
read number positive small =
    let wide : number < 2 ^ 64 = omega arith in
    let numeral : IsNumeral 10 (decimal number) ×
    (digits_value 10 (decimal number) ≡ number) = decimal_is_IsNumeral number wide in
    let some : 0 < length (decimal number) = decimal_nonempty number wide in
    let short : length (decimal number) ≤ 10 = length-decimal-le 10 number (lit< tt)
    (omega arith) wide in
    let value_small : digits_value 10 (decimal number) < 2 ^ 32 = omega (arith, numeral.1) in (
      both _ _ (both _ _ (tested_le 1 _ (omega arith)) (tested_le _ 10 short))
          (both _ _ (tested_not_zero _ (first_decimal number positive wide))
          (both _ _ (own.from (decimal number) numeral.0.1) (tested_lt _ _ value_small))),
      numeral.1,
    )

-- what is read is named by the bytes
pub item_number-Some : (letter number : ℕ) (bytes : List ℕ)
    → item_number letter bytes ≡ Some number → IsItemName letter number bytes
item_number-Some letter number [] e = cc
item_number-Some letter number (b ∷ digits) e = by_tests (b == letter)
    (is_item_number digits) refl refl e
  where
    by_tests : (l n : Bool) → (b == letter) ≡ l → is_item_number digits ≡ n
        → (if l then (if n then Some (digits_value 10 digits) else None) else None) ≡ Some number
        → IsItemName letter number (b ∷ digits)
    by_tests true true el en found =
        let same : digits_value 10 digits ≡ number = cc in
        let b_is : b ≡ letter = eqb-true b letter el in
        let digits_are : digits ≡ decimal number = (printed digits en).1 ∙ ap decimal same in
        (rw same at (item-positive digits en), rw same at (printed digits en).0, cc)
    by_tests true false el en found = cc
    by_tests false n el en found = cc

own_letter : (letter : ℕ) → (letter == letter) ≡ true
own_letter letter = grind (arith, nat_tests)

-- what the bytes name is read
pub item_number-name : (letter number : ℕ) (bytes : List ℕ) → IsItemName letter number bytes
    → item_number letter bytes ≡ Some number
item_number-name letter number bytes name =
    let digits : (is_item_number (decimal number) ≡ true) ×
    (digits_value 10 (decimal number) ≡ number) = read number name.0 name.1 in
    rw (name.2, own_letter letter, digits.0, digits.1) refl

-- a number that is read is named
pub named : (letter : ℕ) (bytes : List ℕ) (found : Option ℕ) → found ≡ item_number letter bytes
    → IfSome found (λ number. IsItemName letter number bytes)
named letter bytes None e = tt
named letter bytes (Some number) e = item_number-Some letter number bytes (sym e)

-- where none is read, none is named
pub unnamed : (letter : ℕ) (bytes : List ℕ) (found : Option ℕ) → found ≡ item_number letter bytes
    → IfNone found ((number : ℕ) → ¬ IsItemName letter number bytes)
unnamed letter bytes None e = λ number name. let f : item_number letter bytes
    ≡ Some number = item_number-name letter number bytes name in cc
unnamed letter bytes (Some number) e = tt
