-- No ring, no member and no node.
use Rattle.item_list.proofs.Steps.{kept_new}
use Rattle.item_list.proofs.chain.Chain.new.Goals as goal

pub invariant_of-result : goal.invariant_of-result
invariant_of-result g c = kept_new c.new.result c.new-2.result c.new.ensures.rings c.new.ensures.tags c.new.ensures.apart c.new-2.ensures
