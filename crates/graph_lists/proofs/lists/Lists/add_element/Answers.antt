-- The two members are of this element.
use Rattle.std.proofs.Common.{◌≡◌, None, sym, subst}
use Rattle.graph_lists.specs.Named.{Lists, hook_at}
use Rattle.graph_lists.specs.Tied.{AreTied}
use Rattle.graph_lists.specs.Steps.{AddsMember}
use Rattle.graph_lists.proofs.Makes.{tied_hooked}
use Rattle.graph_lists.proofs.lists.Lists.add_element.Goals as goal

pub invariant_of-self : goal.invariant_of-self
invariant_of-self c =
    let a = c.self.inside in
    subst (λ u. AreTied u c.add_member-shown.new.rings) (sym c.show_element.ensures) (tied_hooked a.seen.view a.rings c.add_member-full.new.rings c.add_member-shown.new.rings c.self.invariant c.args.x (record { full = c.add_member-full.result; shown = c.add_member-shown.result }) (subst (λ (o : Lists). hook_at o.named c.args.x ≡ None) (sym c.self.view_is) c.requires.fresh) (subst (AddsMember a.rings c.add_member-full.new.rings c.add_member-full.result) c.number.ensures c.add_member-full.ensures) (subst (AddsMember c.add_member-full.new.rings c.add_member-shown.new.rings c.add_member-shown.result) c.number-2.ensures c.add_member-shown.ensures))
