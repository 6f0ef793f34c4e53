-- Private: how a block stores its row.
use Rattle.std.specs.Prelude.{◌≡◌, length}
use Rattle.item_ring.specs.declared.block.TheConstants.{BLOCK}
use Rattle.item_ring.specs.declared.block.Block.TheInside.{Inside}
use Rattle.item_ring.specs.NodeBlock.{NodeBlock}

abbrev pub block_of : Inside → NodeBlock
block_of a = record { at = a.cells.at; slots = a.cells.slots }

pub record IsBlock (a : Inside) : Type 0 where
  pub owned : a.cells.at ≡ a.start.at
  pub freed_at : a.deed.at ≡ a.start.at
  pub freed_len : a.deed.len ≡ BLOCK
  pub freed_by : a.deed.alloc ≡ a.alloc
  pub full : length a.cells.slots ≡ BLOCK
