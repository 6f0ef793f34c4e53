use Rattle.sp_check.specs.Passes.{AreMarked}
use Rattle.sp_check.proofs.cycles.marks_of.Given as goal

abbrev pub invariant-loop-seed : goal.invariant-loop-seed
invariant-loop-seed l = AreMarked l.net l.a l.seed 0 l.marks.items
