use Rattle.std.proofs.Common.{ℕ, ◌<◌}
use Rattle.graph_defs.specs.Shortest.{IsNotShorter}
use Rattle.sp_check.proofs.paths.first_shorter.Given as goal

abbrev pub invariant-loop-arc : goal.invariant-loop-arc
invariant-loop-arc l = (v : ℕ) → v < l.arc → IsNotShorter l.net l.cost l.a v
