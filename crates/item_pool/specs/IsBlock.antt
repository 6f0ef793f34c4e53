-- Private: what holds of the fields of a block.
use Rattle.std.specs.Prelude.{◌≡◌, map, length, Some}
use Rattle.item_pool.specs.Filled.{somes}
use Rattle.item_pool.specs.declared.block.Block.TheInside.{Inside}

pub record IsBlock {X : Type 0} (b : Inside X) : Type 0 where
  pub at : b.places.at ≡ b.start.ptr
  pub deed : (b.deed.at ≡ b.start.ptr) × (b.deed.len ≡ b.len) × (b.deed.alloc ≡ b.alloc)
  pub full : b.places.row ≡ map Some (somes b.places.row)
  pub long : length (somes b.places.row) ≡ b.len
