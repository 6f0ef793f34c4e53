use Rattle.std.proofs.Common.{◌≡◌, ℕ, ◌<◌, get_or}
use Rattle.graph_defs.specs.Net.{target}
use Rattle.sp_search.proofs.forest.loop_of.Given as goal

abbrev pub invariant-loop-place : goal.invariant-loop-place
invariant-loop-place l = (k : ℕ) → k < l.place → target l.net (get_or l.trail k 0) ≡ l.here → ⊥
