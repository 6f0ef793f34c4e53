use Rattle.std.proofs.Common.{◌≡◌, ◌≤◌}
use Rattle.blossom_lift.specs.Contraction.{rank}
use Rattle.blossom_lift.specs.Passes.{marked}
use Rattle.blossom_lift.proofs.shrinking.count_unmarked.Given as goal

abbrev pub invariant-loop-is_marked : goal.invariant-loop-is_marked
invariant-loop-is_marked l = (l.count ≤ l.is_marked-index) × (l.count ≡ rank (marked l.marks) l.is_marked-index)
