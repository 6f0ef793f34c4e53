-- Both members are gone.
use Rattle.std.proofs.Common.{◌≡◌, ◌+◌, false, Some, is_some, sym, ap, subst, ◌∙◌, arith}
use Rattle.std.specs.FinMap as fin
use Rattle.item_ring.specs.RingLists.{RingLists, IsLinkedIn, IsLoose}
use Rattle.item_ring.specs.RingLists as ring
use Rattle.graph_state.specs.Names.{Has}
use Rattle.graph_lists.specs.Named.{Lists, hook_at}
use Rattle.graph_lists.specs.Tied.{AreTied}
use Rattle.graph_lists.proofs.Makes.{tied_unhooked, unhooked_shown, unhooked_tag}
use Rattle.graph_lists.proofs.Room.{len_less}
use Rattle.graph_lists.proofs.lists.Lists.drop_element.Goals as goal

pub drop_member-requires : goal.drop_member-requires
drop_member-requires c =
    let a = c.self.inside in
    c.self.invariant.loose false c.args.x c.args.hook.now (subst (λ (o : Lists). hook_at o.named c.args.x ≡ Some c.args.hook.now) (sym c.self.view_is) c.requires.hook) (subst (λ (o : Lists). Has c.args.x o.named.loose) (sym c.self.view_is) c.requires.loose)

pub drop_member-requires-2 : goal.drop_member-requires-2
drop_member-requires-2 c =
    let a = c.self.inside in
    unhooked_shown a.seen.view a.rings c.drop_member.new.self c.self.invariant c.args.x c.args.hook.now (subst (λ (o : Lists). hook_at o.named c.args.x ≡ Some c.args.hook.now) (sym c.self.view_is) c.requires.hook) (subst (λ (o : Lists). Has c.args.x o.named.loose) (sym c.self.view_is) c.requires.loose) c.drop_member.ensures.loose

pub invariant_of-self : goal.invariant_of-self
invariant_of-self c =
    let a = c.self.inside in
    subst (λ u. AreTied u c.drop_member-2.new.self) (sym c.show.ensures) (tied_unhooked a.seen.view a.rings c.drop_member.new.self c.drop_member-2.new.self c.self.invariant c.args.x c.args.hook.now (subst (λ (o : Lists). hook_at o.named c.args.x ≡ Some c.args.hook.now) (sym c.self.view_is) c.requires.hook) (subst (λ (o : Lists). Has c.args.x o.named.loose) (sym c.self.view_is) c.requires.loose) (c.drop_member-2.ensures.tags ∙ ap (λ r. fin.remove r c.args.hook.now.shown) c.drop_member.ensures.tags) (c.drop_member-2.ensures.loose ∙ ap (ring.without c.args.hook.now.shown) c.drop_member.ensures.loose) (c.drop_member-2.ensures.same.0 ∙ c.drop_member.ensures.same.0) c.drop_member-2.ensures.apart)

pub returns-clause-members : goal.returns-clause-members
returns-clause-members c =
    let a = c.self.inside in
    let hook = (subst (λ (o : Lists). hook_at o.named c.args.x ≡ Some c.args.hook.now) (sym c.self.view_is) c.requires.hook) in
    let one = len_less a.rings.tags c.args.hook.now.full (ap is_some (c.self.invariant.members false c.args.x c.args.hook.now hook).tag) in
    let two = len_less c.drop_member.new.self.tags c.args.hook.now.shown (unhooked_tag a.seen.view a.rings c.self.invariant c.args.x c.args.hook.now hook c.drop_member.new.self c.drop_member.ensures.tags) in
    let n = ap fin.len c.drop_member.ensures.tags in
    let m = ap fin.len c.drop_member-2.ensures.tags in
    let all : fin.len c.drop_member-2.new.self.tags + 2 ≡ fin.len a.rings.tags = omega (arith, one, two, n, m) in
    subst (λ (o : Lists). fin.len c.drop_member-2.new.self.tags + 2 ≡ o.members) c.self.view_is all
