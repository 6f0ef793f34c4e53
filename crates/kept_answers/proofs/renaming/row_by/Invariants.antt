use Rattle.std.proofs.Common.{◌≡◌, map, take}
use Rattle.kept_answers.proofs.renaming.row_by.Given as goal

abbrev pub invariant-loop-number : goal.invariant-loop-number
invariant-loop-number g l = l.row ≡ map (g.N.Numbering.number l.by) (take l.number-index l.numbers)
