-- The places and the pool stand for the objects, and no other place has changed.
use Rattle.std.proofs.Common.{◌≡◌}
use Rattle.std.specs.Prelude.{⊤}
use Rattle.std.specs.FinMap as finmap
use Rattle.object_store.specs.Kept.{IsKept, Replaces}
use Rattle.object_store.proofs.drop.empty.Given as goal

abbrev pub invariant-loop-number : goal.invariant-loop-number
invariant-loop-number l =
    IsKept l.slots l.cells × Replaces l.initial.slots l.slots l.slot (λ o t. ⊤)
    × (l.cells.made ≡ l.initial.cells.made)

abbrev pub decreases-loop-number : goal.decreases-loop-number
decreases-loop-number l = finmap.len l.cells.live
