-- The element goes behind the other in the second ring.
use Rattle.std.proofs.Common.{◌≡◌, false, Some, sym, subst}
use Rattle.graph_lists.specs.Named.{Lists, hook_at, shows_at, IsNextShown}
use Rattle.graph_lists.specs.Tied.{AreTied}
use Rattle.graph_lists.proofs.Shown.{shown_out, next_linked, tied_next}
use Rattle.graph_lists.proofs.Room.{room_set, room_is}
use Rattle.graph_lists.proofs.lists.Lists.show_behind.Goals as goal

pub insert_after-requires-clause-at : goal.insert_after-requires-clause-at
insert_after-requires-clause-at c =
    let a = c.self.inside in
    next_linked a.seen.view a.rings c.self.invariant c.args.x c.args.hook.now (subst (λ (o : Lists). hook_at o.named c.args.x ≡ Some c.args.hook.now) (sym c.self.view_is) c.requires.hook) (subst (λ (o : Lists). shows_at o.named c.args.x ≡ false) (sym c.self.view_is) c.requires.hidden) c.args.list c.args.y c.args.beside.now (subst (λ (o : Lists). hook_at o.named c.args.y ≡ Some c.args.beside.now) (sym c.self.view_is) c.requires.beside) (subst (λ (o : Lists). IsNextShown o.named c.args.list c.args.y c.args.x) (sym c.self.view_is) c.requires.next)

pub insert_after-requires-clause-member : goal.insert_after-requires-clause-member
insert_after-requires-clause-member c =
    let a = c.self.inside in
    shown_out a.seen.view a.rings c.self.invariant c.args.x c.args.hook.now (subst (λ (o : Lists). hook_at o.named c.args.x ≡ Some c.args.hook.now) (sym c.self.view_is) c.requires.hook) (subst (λ (o : Lists). shows_at o.named c.args.x ≡ false) (sym c.self.view_is) c.requires.hidden) c.args.list

pub invariant_of-self : goal.invariant_of-self
invariant_of-self c =
    let a = c.self.inside in
    subst (λ u. AreTied u c.insert_after.new.self) (sym c.show_mark.ensures) (tied_next a.seen.view a.rings c.self.invariant c.args.x c.args.hook.now (subst (λ (o : Lists). hook_at o.named c.args.x ≡ Some c.args.hook.now) (sym c.self.view_is) c.requires.hook) (subst (λ (o : Lists). shows_at o.named c.args.x ≡ false) (sym c.self.view_is) c.requires.hidden) c.args.list c.args.y c.args.beside.now (subst (λ (o : Lists). hook_at o.named c.args.y ≡ Some c.args.beside.now) (sym c.self.view_is) c.requires.beside) (subst (λ (o : Lists). IsNextShown o.named c.args.list c.args.y c.args.x) (sym c.self.view_is) c.requires.next) c.insert_after.new.self c.insert_after.ensures.rings c.insert_after.ensures.tags c.insert_after.ensures.loose c.insert_after.ensures.apart)

pub returns-clause-room : goal.returns-clause-room
returns-clause-room c =
    let a = c.self.inside in
    let linked = next_linked a.seen.view a.rings c.self.invariant c.args.x c.args.hook.now (subst (λ (o : Lists). hook_at o.named c.args.x ≡ Some c.args.hook.now) (sym c.self.view_is) c.requires.hook) (subst (λ (o : Lists). shows_at o.named c.args.x ≡ false) (sym c.self.view_is) c.requires.hidden) c.args.list c.args.y c.args.beside.now (subst (λ (o : Lists). hook_at o.named c.args.y ≡ Some c.args.beside.now) (sym c.self.view_is) c.requires.beside) (subst (λ (o : Lists). IsNextShown o.named c.args.list c.args.y c.args.x) (sym c.self.view_is) c.requires.next) in room_is c.args.self.now a (record { rings = c.insert_after.new.self; seen = c.show_mark.new.seen }) c.self.view_is (room_set a.rings c.insert_after.new.self linked.0 _ linked.1.head (c.insert_after.ensures.rings linked.0 linked.1) c.insert_after.ensures.tags c.insert_after.ensures.spare)
