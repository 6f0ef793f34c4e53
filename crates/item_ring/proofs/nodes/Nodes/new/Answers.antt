-- There are no nodes.
use Rattle.item_ring.proofs.Writes.{none_keeps}
use Rattle.item_ring.proofs.nodes.Nodes.new.Goals as goal

pub invariant_of-result : goal.invariant_of-result
invariant_of-result c = none_keeps c.new.result.items c.new.ensures.items
