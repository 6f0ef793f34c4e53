-- What is seen after the call.
use Rattle.item_ring.specs.Turns.{tied}
use Rattle.item_ring.proofs.rings.Rings.tie.Given as goal

abbrev pub ghost-show : goal.ghost-show
ghost-show a = tied a.seen.now.view a.ring a.member a.other
