use Rattle.std.proofs.Common.{◌≢◌, ℕ, ◌+◌, ◌<◌, get_or}
use Rattle.blossom_search.proofs.stem.half_of.Given as goal

abbrev pub invariant-loop-half : goal.invariant-loop-half
invariant-loop-half l = (half : ℕ) → half < l.half → get_or l.nodes (half + half) 0 ≢ l.node
