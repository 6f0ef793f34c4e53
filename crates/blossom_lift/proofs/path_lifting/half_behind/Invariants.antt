use Rattle.std.proofs.Common.{ℕ, ◌<◌}
use Rattle.blossom_lift.specs.Passes.{IsBehind}
use Rattle.blossom_lift.proofs.path_lifting.half_behind.Given as goal

abbrev pub invariant-loop-half : goal.invariant-loop-half
invariant-loop-half l = (k : ℕ) → k < l.half → IsBehind l.net l.hub l.path k → ⊥
