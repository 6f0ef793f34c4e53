-- Private: what is seen of a block of nodes.
use Rattle.std.specs.Prelude.{ℕ, ◌*◌, List, Option}
use Rattle.std.specs.Mem.{type_size}
use denote.RawPtr.{Ptr, ◌+ₚ◌}
use Rattle.item_ring.specs.declared.block.Node.{Node}
use Rattle.item_ring.specs.contracts.block.Node.{the_row}

-- where the block begins, and what stands at its places
pub record NodeBlock : Type 0 where
  pub at : Ptr
  pub slots : List (Option Node)

-- the address of the place at the index
unfoldable pub address_of : NodeBlock → ℕ → Ptr
address_of row index = row.at +ₚ (index * type_size the_row)
