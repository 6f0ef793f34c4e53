use Rattle.std.proofs.Common.{ℕ, ◌<◌, pos, ◌≤ℤ◌}
use Rattle.graph_defs.specs.Sum.{at}
use Rattle.flow_net.proofs.refusals.first_negative.Given as goal

abbrev pub invariant-loop-arc : goal.invariant-loop-arc
invariant-loop-arc l = (j : ℕ) → j < l.arc → pos 0 ≤ℤ at l.cap j
