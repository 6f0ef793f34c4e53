-- Numbers are read as they are written.
use Rattle.std.proofs.Common.{◌≡◌, ℕ, ◌^◌, ◌<◌, true, false, ◌==◌, not, List, [], ◌∷◌, ◌++◌, length, Some, refl, rules, arith}
use Rattle.std.specs.Char.{is_ascii_digit}
use Rattle.std.specs.Fmt.{decimal}
use Rattle.std.specs.List.{list_all, fold}
use Rattle.std.proofs.lemmas.Bool.Decides.{nat_tests}
use Rattle.std.proofs.lemmas.Fmt.{decimal_nonempty, digits_decimal, digits_value-decimal}
use Rattle.std.proofs.lemmas.Option.{cond_some}
use Rattle.std.proofs.lemmas.Str.Parse.{IsNumeralModel, numerals_by_fold}
use Rattle.leda_base.specs.Decimal.{is_digits, with_digit, natural_of}
use Rattle.leda_base.specs.Bytes.{is_blank, is_one_line}
use Rattle.graph_text.proofs.Fields.{is_solid, Begins}
use Rattle.graph_text.proofs.Passes.{first_true, second_true}

own : IsNumeralModel (λ ds. list_all is_ascii_digit ds ≡ true) (fold with_digit 0)
own = numerals_by_fold _ (search rules) (fold with_digit) (search rules)

pub number-again : (n : ℕ) → n < 2 ^ 64 → natural_of (decimal n) ≡ Some n
number-again n h =
    let some : 0 < length (decimal n) = decimal_nonempty n h in
    let test : (length (decimal n) == 0) ≡ false = grind (arith, nat_tests) in
    let all : list_all is_ascii_digit (decimal n) ≡ true = digits_decimal own n h in
    let value : fold with_digit 0 (decimal n) ≡ n = digits_value-decimal own n h in
    rw (test, all, value) refl

-- what is read as a number is digits
pub number-digits : (ds : List ℕ) (n : ℕ) → natural_of ds ≡ Some n → is_digits ds ≡ true
number-digits ds n e = (cond_some _ _ n e).0

digit-visible : (c : ℕ) → is_ascii_digit c ≡ true → is_blank c ≡ false
digit-visible c e = grind (arith, nat_tests)

digit-stays : (c : ℕ) → is_ascii_digit c ≡ true → (c == 10) ≡ false
digit-stays c e = grind (arith, nat_tests)

pub digits-solid : (ds : List ℕ) → list_all is_ascii_digit ds ≡ true → is_solid ds ≡ true
digits-solid [] h = refl
digits-solid (c ∷ cs) h =
    rw (digit-visible c (first_true _ _ h)) (digits-solid cs (second_true _ _ h))

pub digits-one_line : (ds : List ℕ) → list_all is_ascii_digit ds ≡ true → is_one_line ds ≡ true
digits-one_line [] h = refl
digits-one_line (c ∷ cs) h =
    rw (digit-stays c (first_true _ _ h)) (digits-one_line cs (second_true _ _ h))

pub digits-begin : (ds more : List ℕ) → is_digits ds ≡ true → Begins (ds ++ more)
digits-begin [] more h = absurd cc
digits-begin (c ∷ cs) more h =
    let all : list_all is_ascii_digit (c ∷ cs) ≡ true =
    second_true (not (length (c ∷ cs) == 0)) (list_all is_ascii_digit (c ∷ cs)) h in
    digit-visible c (first_true _ _ all)
