-- At first nothing is seen.
use Rattle.item_ring.specs.View.{nothing_seen}
use Rattle.item_ring.proofs.rings.Rings.new.Given as goal

abbrev pub ghost-nothing : goal.ghost-nothing
ghost-nothing a = nothing_seen
