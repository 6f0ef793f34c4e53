-- What is seen after the call.
use Rattle.item_ring.specs.Turns.{head_gone}
use Rattle.item_ring.proofs.rings.Rings.drop_head.Given as goal

abbrev pub ghost-show : goal.ghost-show
ghost-show a = head_gone a.seen.now.view a.ring
