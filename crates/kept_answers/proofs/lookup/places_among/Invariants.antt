use Rattle.std.proofs.Common.{◌≡◌, take}
use Rattle.kept_answers.specs.Checked.{places_in}
use Rattle.kept_answers.proofs.lookup.places_among.Given as goal

abbrev pub invariant-loop-number : goal.invariant-loop-number
invariant-loop-number l = l.places ≡ places_in l.among (take l.number-index l.numbers)
