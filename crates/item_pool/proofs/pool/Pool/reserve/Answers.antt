-- The live cells stay, and the table leads to them as before.
use Rattle.std.proofs.Common.{refl}
use Rattle.item_pool.proofs.PoolSteps.{grow_pool}
use Rattle.item_pool.proofs.pool.Pool.reserve.Goals as goal

pub invariant_of-self : goal.invariant_of-self
invariant_of-self g c =
    grow_pool c.self.inside _ c.self.invariant c.add_cells.ensures.live c.add_cells.ensures.chain c.add_cells.ensures.total.0 c.add_cells.ensures.total.1 (λ _. refl) refl refl refl

pub invariant_of-self-2 : goal.invariant_of-self-2
invariant_of-self-2 g c =
    grow_pool c.self.inside _ c.self.invariant c.add_cells.ensures.live c.add_cells.ensures.chain c.add_cells.ensures.total.0 c.add_cells.ensures.total.1 c.reserve.ensures.kept refl refl c.reserve.ensures.next
