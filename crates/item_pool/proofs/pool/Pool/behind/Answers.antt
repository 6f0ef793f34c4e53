-- There are no cells.
use Rattle.std.proofs.Common.{refl}
use Rattle.item_pool.proofs.PoolSteps.{empty_pool}
use Rattle.item_pool.proofs.pool.Pool.behind.Goals as goal

pub invariant_of-result : goal.invariant_of-result
invariant_of-result g c = empty_pool _ c.new.ensures c.new-2.ensures.empty refl refl c.requires c.new-2.ensures.next
