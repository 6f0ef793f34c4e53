use Rattle.sp_search.specs.Forest.{AreMarked}
use Rattle.sp_search.proofs.forest.stray.Given as goal

abbrev pub invariant-loop-node : goal.invariant-loop-node
invariant-loop-node l = AreMarked l.tags l.marks l.node
