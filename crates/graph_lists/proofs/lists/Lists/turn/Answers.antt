-- The rings stay, and stand for the lists by their other names.
use Rattle.std.proofs.Common.{sym, subst}
use Rattle.graph_lists.specs.Tied.{AreTied}
use Rattle.graph_lists.proofs.Turned.{tied_turned}
use Rattle.graph_lists.proofs.lists.Lists.turn.Goals as goal

pub invariant_of-self : goal.invariant_of-self
invariant_of-self c =
    let a = c.self.inside in
    subst (λ u. AreTied u a.rings) (sym c.show_turn.ensures) (tied_turned c.args.directed a.seen.view a.rings c.self.invariant)
