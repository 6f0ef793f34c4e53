-- The two heads are of this list.
use Rattle.std.proofs.Common.{◌≡◌, None, sym, subst}
use Rattle.graph_lists.specs.Named.{Lists, head_at}
use Rattle.graph_lists.specs.Tied.{AreTied}
use Rattle.graph_lists.proofs.Makes.{tied_listed}
use Rattle.graph_lists.proofs.lists.Lists.add_list.Goals as goal

pub invariant_of-self : goal.invariant_of-self
invariant_of-self c =
    let a = c.self.inside in
    subst (λ u. AreTied u c.add_head-shown.new.rings) (sym c.show_list.ensures) (tied_listed a.seen.view a.rings c.add_head-full.new.rings c.add_head-shown.new.rings c.self.invariant c.args.list (record { full = c.add_head-full.result; shown = c.add_head-shown.result }) (subst (λ (o : Lists). head_at o.named c.args.list ≡ None) (sym c.self.view_is) c.requires.fresh) c.add_head-full.ensures c.add_head-shown.ensures)
