-- Private: what the cells are once a `&mut` to one of them has ended.
use Rattle.std.specs.Prelude.{ℕ, List, slice_set}
use Rattle.std.specs.Borrow.{Fml, RattleType, MutBor, Lends}
use Rattle.item_pool.specs.declared.block.Cell.{Cell}
use Rattle.item_pool.specs.contracts.cells.Cells.{the_row}
use Rattle.item_pool.specs.contracts.block.Cell.{the_row as cell_row}

-- the cell at the slot is what was written last through r
abbrev pub lends_cell_of : (R : RattleType) → MutBor (List (Cell R.Denot)) → ℕ
    → MutBor (Cell R.Denot) → Fml
lends_cell_of R b slot r = Lends (the_row R) (cell_row R) b r (λ c. slice_set b.now slot c)
