-- Each live serial was made.
use Rattle.std.proofs.Common.{min, subst}
use Rattle.item_pool.specs.Contents.{IsWithin}
use Rattle.item_pool.proofs.PoolSteps.{pool_within}
use Rattle.item_pool.proofs.pool.Pool.made.Goals as goal

pub returns-clause-within : goal.returns-clause-within
returns-clause-within g c =
    let p = c.self.inside in
    subst IsWithin c.self.view_is (pool_within p c.self.invariant (min p.free p.table.sure))
