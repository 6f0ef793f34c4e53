use Rattle.std.proofs.Common.{◌<◌, take}
use Rattle.graph_defs.specs.Walk.{IsWalk}
use Rattle.sp_check.proofs.cycles.end_of.Given as goal

abbrev pub invariant-loop-arc : goal.invariant-loop-arc
invariant-loop-arc l = IsWalk l.net l.from l.here (take l.arc-index l.walk) × (l.here < l.net.n)
