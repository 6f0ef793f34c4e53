use Rattle.std.proofs.Common.{ℕ, ◌<◌}
use Rattle.graph_defs.specs.Flow.{IsWithinAt}
use Rattle.flow_check.proofs.balances.first_out_of_bounds.Given as goal

abbrev pub invariant-loop-arc : goal.invariant-loop-arc
invariant-loop-arc l = (arc : ℕ) → arc < l.arc → IsWithinAt l.low l.high l.flow arc
