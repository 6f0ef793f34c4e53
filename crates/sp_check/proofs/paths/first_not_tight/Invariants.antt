use Rattle.std.proofs.Common.{ℕ, ◌<◌}
use Rattle.graph_defs.specs.Shortest.{IsTight}
use Rattle.sp_check.proofs.paths.first_not_tight.Given as goal

abbrev pub invariant-loop-node : goal.invariant-loop-node
invariant-loop-node l = (v : ℕ) → v < l.node → IsTight l.net l.cost l.a v
