-- The row shows the items gone by.
use Rattle.std.proofs.Common.{take}
use Rattle.item_queue.specs.Listing.{serials_of}
use Rattle.object_store.specs.Inner.{inner}
use Rattle.object_store.proofs.Listings.{ShowsSerials}
use Rattle.object_store.proofs.object.Object.by_priority.Given as goal

abbrev pub invariant-loop-item : goal.invariant-loop-item
invariant-loop-item l = ShowsSerials (inner l.self) (serials_of (take l.item-index l.items)) l.cells
