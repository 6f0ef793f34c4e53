use Rattle.std.proofs.Common.{◌≡◌}
use Rattle.graph_defs.specs.Flow.{capacity_below}
use Rattle.flow_check.specs.Passes.{IsSmall, marked}
use Rattle.flow_check.proofs.cut.capacity_of.Given as goal

abbrev pub invariant-loop-arc : goal.invariant-loop-arc
invariant-loop-arc l = (l.sum ≡ capacity_below l.net l.cap (marked l.marks) l.arc) × IsSmall l.arc l.sum
