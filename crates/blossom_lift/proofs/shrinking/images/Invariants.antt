use Rattle.std.proofs.Common.{◌≡◌, ◌≤◌, map, length}
use Rattle.std.specs.List.{range_with_len}
use Rattle.blossom_lift.specs.Contraction.{rank, image_of}
use Rattle.blossom_lift.specs.Passes.{marked}
use Rattle.blossom_lift.proofs.shrinking.images.Given as goal

abbrev pub invariant-loop-is_marked : goal.invariant-loop-is_marked
invariant-loop-is_marked l = (l.next ≤ l.is_marked-index)
    × (l.next ≡ rank (marked l.marks) l.is_marked-index)
    × (l.images ≡ map (image_of (marked l.marks) (length l.marks)) (range_with_len 0 l.is_marked-index))
