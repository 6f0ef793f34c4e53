-- The numbers of the nodes.
use Rattle.std.proofs.Common.{sym, subst}
use Rattle.graph_state.specs.Names.{Has, IsOnce}
use Rattle.hide_restore.proofs.places.Places.of.Goals as goal

pub of_numbers-requires-clause-most : goal.of_numbers-requires-clause-most
of_numbers-requires-clause-most c v i = c.requires.most v (subst (Has v) c.in_ok-numbers_of.ensures i)

pub of_numbers-requires-clause-once : goal.of_numbers-requires-clause-once
of_numbers-requires-clause-once c = subst IsOnce (sym c.in_ok-numbers_of.ensures) c.requires.once
