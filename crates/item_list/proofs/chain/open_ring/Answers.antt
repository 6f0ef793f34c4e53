-- There is no ring yet, and then one that is empty.
use Rattle.item_list.proofs.Steps.{empty_few, opened}
use Rattle.item_list.proofs.chain.open_ring.Goals as goal

pub add_head-requires : goal.add_head-requires
add_head-requires c = empty_few c.args.rings.now c.args.head.now c.requires.headed c.in_default.not-Some

pub returns-clause-ok : goal.returns-clause-ok
returns-clause-ok c = opened c.args.rings.now c.add_head.new.self c.args.head.now c.in_ok-made.made c.in_default.not-Some c.in_ok-made.ensures.made.1 c.add_head.ensures.same.1 c.add_head.ensures.apart
