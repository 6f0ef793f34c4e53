-- Private: what a block is once a `&mut` into it has ended.
use Rattle.std.specs.Prelude.{ℕ, List, slice_set}
use Rattle.std.specs.Borrow.{Fml, RattleType, MutBor, Lends}
use Rattle.item_pool.specs.declared.block.Cell.{Cell}
use Rattle.item_pool.specs.contracts.block.Block.{the_row}
use Rattle.item_pool.specs.contracts.block.Cell.{the_row as cell_row}

-- the cell at the index is what was written last through r
abbrev pub lends_cell : (R : RattleType) → MutBor (List (Cell R.Denot)) → ℕ → MutBor (Cell R.Denot)
    → Fml
lends_cell R b i r = Lends (the_row R) (cell_row R) b r (λ c. slice_set b.now i c)
