-- What is seen after the call.
use Rattle.item_ring.specs.Turns.{headed}
use Rattle.item_ring.proofs.rings.Rings.add_head.Given as goal

abbrev pub ghost-show : goal.ghost-show
ghost-show a = headed a.seen.now.view a.ring
