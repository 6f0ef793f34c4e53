-- Private: what holds of the fields of a pool.
use Rattle.std.specs.Prelude.{◌≡◌, ◌+◌, ◌<◌, ◌≤◌, ◌^◌, length}
use Rattle.std.specs.FinMap as map
use Rattle.item_pool.specs.declared.pool.TheConstants.{MOST_SERIALS}
use Rattle.item_pool.specs.CellsKept.{cell_at, live_of, IsTable, IsChain}
use Rattle.item_pool.specs.Table.{slot_of}
use Rattle.item_pool.specs.declared.pool.Pool.TheInside.{Inside}

pub record IsPool {X : Type 0} (p : Inside X) : Type 0 where
  pub table : IsTable (cell_at p.cells) (slot_of p.table) p.made
  pub next : p.table.next ≡ p.made + 1
  pub chain : IsChain (cell_at p.cells) (length p.cells) p.first p.free
  pub counted : p.live ≡ map.len (live_of p.cells)
  pub total : p.free + p.live ≡ length p.cells
  pub few : (p.live ≤ p.made) × (p.made ≤ MOST_SERIALS)
  pub short : length p.cells < 2 ^ 27
