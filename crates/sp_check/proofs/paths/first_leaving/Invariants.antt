use Rattle.std.proofs.Common.{ℕ, ◌<◌}
use Rattle.graph_defs.specs.Shortest.{StaysWithin}
use Rattle.sp_check.proofs.paths.first_leaving.Given as goal

abbrev pub invariant-loop-arc : goal.invariant-loop-arc
invariant-loop-arc l = (v : ℕ) → v < l.arc → StaysWithin l.net l.a v
