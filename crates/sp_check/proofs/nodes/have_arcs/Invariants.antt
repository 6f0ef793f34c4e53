use Rattle.std.proofs.Common.{ℕ, ◌<◌}
use Rattle.std.specs.Prelude.{IsSome}
use Rattle.graph_defs.specs.Shortest.{finite_at}
use Rattle.sp_check.proofs.nodes.have_arcs.Given as goal

abbrev pub invariant-loop-place : goal.invariant-loop-place
invariant-loop-place l = (k : ℕ) → 0 < k → k < l.place → IsSome (finite_at l.a k).pred
