-- The number of the digits that were read, or the greatest.
use Rattle.std.proofs.Common.{◌≡◌, ◌-◌, ◌^◌, min, take}
use Rattle.std.specs.List.{fold}
use Rattle.leda_base.specs.Decimal.{with_digit}
use Rattle.leda_base.proofs.number.natural_of.Given as goal

abbrev pub invariant-loop-digit : goal.invariant-loop-digit
invariant-loop-digit l = l.number ≡ min (fold with_digit 0 (take l.digit-index l.text))
    (2 ^ 64 - 1)
