-- What is seen after the call.
use Rattle.item_ring.specs.Turns.{member_gone}
use Rattle.item_ring.proofs.rings.Rings.drop_member.Given as goal

abbrev pub ghost-show : goal.ghost-show
ghost-show a = member_gone a.seen.now.view a.ring
