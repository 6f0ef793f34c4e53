use Rattle.std.proofs.Common.{ℕ, ◌<◌}
use Rattle.graph_defs.specs.Shortest.{IsSeed}
use Rattle.sp_check.proofs.cycles.first_bad_seed.Given as goal

abbrev pub invariant-loop-seed : goal.invariant-loop-seed
invariant-loop-seed l = (v : ℕ) → v < l.seed → IsSeed l.net l.s l.cost l.a v
