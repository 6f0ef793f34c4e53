use Rattle.std.proofs.Common.{◌≡◌, ℕ, ◌<◌}
use Rattle.sp_search.specs.Finding.{found_at}
use Rattle.sp_search.proofs.walks.place_of.Given as goal

abbrev pub invariant-loop-place : goal.invariant-loop-place
invariant-loop-place l = (k : ℕ) → k < l.place → (found_at l.queue k).node ≡ l.node → ⊥
