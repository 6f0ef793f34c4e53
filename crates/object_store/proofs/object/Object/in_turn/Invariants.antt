-- The row shows the items up to the next one.
use Rattle.std.proofs.Common.{◌-◌, length}
use Rattle.object_store.specs.Inner.{inner}
use Rattle.object_store.proofs.Listings.{ShowsUpTo}
use Rattle.object_store.proofs.object.Object.in_turn.Given as goal

abbrev pub invariant-loop-next : goal.invariant-loop-next
invariant-loop-next l = ShowsUpTo (inner l.self) l.next l.cells

abbrev pub decreases-loop-next : goal.decreases-loop-next
decreases-loop-next l = length (inner l.self) - length l.cells
