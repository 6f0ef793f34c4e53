use Rattle.std.proofs.Common.{◌≡◌, ℕ, ◌<◌, ◌≤◌, true}
use Rattle.blossom_lift.specs.Passes.{marked}
use Rattle.blossom_lift.proofs.marks.first_unmarked.Given as goal

abbrev pub invariant-loop-place : goal.invariant-loop-place
invariant-loop-place l = (k : ℕ) → 2 ≤ k → k < l.place → marked l.marks k ≡ true
