use Rattle.std.proofs.Common.{ℕ, ◌<◌}
use Rattle.blossom_lift.specs.Passes.{IsEndPlace}
use Rattle.blossom_lift.proofs.path_lifting.end_place.Given as goal

abbrev pub invariant-loop-place : goal.invariant-loop-place
invariant-loop-place l = (k : ℕ) → k < l.place → IsEndPlace l.nodes l.from l.to k → ⊥
