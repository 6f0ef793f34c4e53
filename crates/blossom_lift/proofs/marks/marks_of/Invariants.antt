use Rattle.std.proofs.Common.{take}
use Rattle.blossom_lift.specs.Passes.{AreMarks}
use Rattle.blossom_lift.proofs.marks.marks_of.Given as goal

abbrev pub invariant-loop-number : goal.invariant-loop-number
invariant-loop-number l = AreMarks (take l.number-index l.numbers) l.n l.marks.items
