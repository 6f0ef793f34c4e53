use Rattle.std.proofs.Common.{take}
use Rattle.flow_check.specs.Passes.{AreMarks}
use Rattle.flow_check.proofs.cut.marks_of.Given as goal

abbrev pub invariant-loop-node : goal.invariant-loop-node
invariant-loop-node l = AreMarks l.n (take l.node-index l.set) l.marks.items
