-- The free cells are one chain, and the live ones stay.
use Rattle.std.proofs.Common.{◌≡◌, ◌+◌, ◌-◌, ◌<◌, ◌≤◌, ◌^◌, length}
use Rattle.item_pool.specs.CellsKept.{cell_at, IsChain, IsGrown}
use Rattle.item_pool.proofs.pool.add_cells.Given as goal

abbrev pub invariant-loop-free : goal.invariant-loop-free
invariant-loop-free g l = record {
  chain : IsChain (cell_at l.cells) (length l.cells) l.first l.free;
  total : l.free + l.live ≡ length l.cells;
  short : length l.cells < 2 ^ 27;
  grown : IsGrown l.initial.cells l.cells;
  more : l.initial.free ≤ l.free;
}

abbrev pub decreases-loop-free : goal.decreases-loop-free
decreases-loop-free g l = l.n - l.free
