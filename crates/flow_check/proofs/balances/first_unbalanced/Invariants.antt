use Rattle.std.proofs.Common.{ℕ, ◌<◌}
use Rattle.flow_check.specs.Passes.{IsAtRest}
use Rattle.flow_check.proofs.balances.first_unbalanced.Given as goal

abbrev pub invariant-loop-node : goal.invariant-loop-node
invariant-loop-node l = (node : ℕ) → node < l.node → IsAtRest l.s l.t l.rows node
