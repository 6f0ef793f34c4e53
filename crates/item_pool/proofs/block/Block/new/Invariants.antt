-- The places before the index have their free cells, and the others are empty.
use Rattle.std.proofs.Common.{◌≡◌}
use Rattle.item_pool.specs.Chained.{chained}
use Rattle.item_pool.proofs.Blocks.{filled_to}
use Rattle.item_pool.proofs.block.Block.new.Given as goal

abbrev pub invariant-loop-index : goal.invariant-loop-index
invariant-loop-index g l = record { at : l.places.at ≡ l.start.ptr; row : l.places.row ≡ filled_to l.index (chained l.len l.base l.free l.next) }
