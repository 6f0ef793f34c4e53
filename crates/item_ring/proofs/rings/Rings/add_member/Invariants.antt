-- What is seen after the call.
use Rattle.item_ring.specs.Turns.{membered}
use Rattle.item_ring.proofs.rings.Rings.add_member.Given as goal

abbrev pub ghost-show : goal.ghost-show
ghost-show a = membered a.seen.now.view a.ring a.other
