use Rattle.sp_check.proofs.Steps.{IsTotal}
use Rattle.sp_check.proofs.cycles.weight_of.Given as goal

abbrev pub invariant-loop-arc : goal.invariant-loop-arc
invariant-loop-arc l = IsTotal l.cost l.walk l.arc-index l.total
