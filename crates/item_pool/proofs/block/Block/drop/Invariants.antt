-- The places before the index are empty, and the others hold their cells.
use Rattle.std.proofs.Common.{◌≡◌}
use Rattle.item_pool.specs.Filled.{somes}
use Rattle.item_pool.proofs.Blocks.{emptied_to}
use Rattle.item_pool.proofs.block.Block.drop.Given as goal

abbrev pub invariant-loop-index : goal.invariant-loop-index
invariant-loop-index g l = record { at : l.places.at ≡ l.start.ptr; row : l.places.row ≡ emptied_to l.index (somes l.initial.places.row) }
