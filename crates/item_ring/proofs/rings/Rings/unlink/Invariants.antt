-- What is seen after the call.
use Rattle.item_ring.specs.Turns.{unlinked}
use Rattle.item_ring.proofs.rings.Rings.unlink.Given as goal

abbrev pub ghost-show : goal.ghost-show
ghost-show a = unlinked a.seen.now.view a.ring a.member
