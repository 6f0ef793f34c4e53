-- What the caller picked.
use Rattle.item_ring.proofs.seen.show.Given as goal

abbrev pub ghost-becomes : goal.ghost-becomes
ghost-becomes g a = g.to
