use Rattle.sp_check.specs.Passes.{AreMarked}
use Rattle.sp_check.proofs.cycles.mark_cycle.Given as goal

abbrev pub invariant-loop-arc : goal.invariant-loop-arc
invariant-loop-arc l = AreMarked l.net l.a l.seed l.arc-index l.marks.items
