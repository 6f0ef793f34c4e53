-- Only the room changes.
use Rattle.graph_lists.proofs.lists.Lists.reserve.Goals as goal
use Rattle.graph_lists.proofs.Makes.{rings_same}

pub invariant_of-self : goal.invariant_of-self
invariant_of-self c =
    let a = c.self.inside in
    rings_same a.seen.view a.rings c.reserve.new.self c.self.invariant c.reserve.ensures.same c.reserve.ensures.apart
