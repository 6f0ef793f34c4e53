-- The element is the first in the second ring.
use Rattle.std.proofs.Common.{◌≡◌, true, false, Some, sym, subst}
use Rattle.graph_lists.specs.Named.{Lists, head_at, hook_at, shows_at, seen_list, IsFirstShown}
use Rattle.graph_lists.specs.Tied.{AreTied}
use Rattle.graph_lists.proofs.Rows.{is_head}
use Rattle.graph_lists.proofs.Shown.{shown_out, tied_first}
use Rattle.graph_lists.proofs.Room.{room_set, room_is}
use Rattle.graph_lists.proofs.lists.Lists.show_first.Goals as goal

pub push_front-requires-clause-head : goal.push_front-requires-clause-head
push_front-requires-clause-head c =
    let a = c.self.inside in
    is_head a.seen.view a.rings true c.args.list (seen_list a.seen.view true c.args.list) c.args.head.now.shown (c.self.invariant.rows true c.args.list c.args.head.now (subst (λ (o : Lists). head_at o.named c.args.list ≡ Some c.args.head.now) (sym c.self.view_is) c.requires.head))

pub push_front-requires-clause-member : goal.push_front-requires-clause-member
push_front-requires-clause-member c =
    let a = c.self.inside in
    shown_out a.seen.view a.rings c.self.invariant c.args.x c.args.hook.now (subst (λ (o : Lists). hook_at o.named c.args.x ≡ Some c.args.hook.now) (sym c.self.view_is) c.requires.hook) (subst (λ (o : Lists). shows_at o.named c.args.x ≡ false) (sym c.self.view_is) c.requires.hidden) c.args.list

pub invariant_of-self : goal.invariant_of-self
invariant_of-self c =
    let a = c.self.inside in
    subst (λ u. AreTied u c.push_front.new.self) (sym c.show_mark.ensures) (tied_first a.seen.view a.rings c.self.invariant c.args.x c.args.hook.now (subst (λ (o : Lists). hook_at o.named c.args.x ≡ Some c.args.hook.now) (sym c.self.view_is) c.requires.hook) (subst (λ (o : Lists). shows_at o.named c.args.x ≡ false) (sym c.self.view_is) c.requires.hidden) c.args.list c.push_front.new.self c.args.head.now (subst (λ (o : Lists). head_at o.named c.args.list ≡ Some c.args.head.now) (sym c.self.view_is) c.requires.head) (subst (λ (o : Lists). IsFirstShown o.named c.args.list c.args.x) (sym c.self.view_is) c.requires.first) c.push_front.ensures.rings c.push_front.ensures.tags c.push_front.ensures.loose c.push_front.ensures.apart)

pub returns-clause-room : goal.returns-clause-room
returns-clause-room c =
    let a = c.self.inside in
    room_is c.args.self.now a (record { rings = c.push_front.new.self; seen = c.show_mark.new.seen }) c.self.view_is (room_set a.rings c.push_front.new.self c.args.head.now.shown _ (is_head a.seen.view a.rings true c.args.list (seen_list a.seen.view true c.args.list) c.args.head.now.shown (c.self.invariant.rows true c.args.list c.args.head.now (subst (λ (o : Lists). head_at o.named c.args.list ≡ Some c.args.head.now) (sym c.self.view_is) c.requires.head))) c.push_front.ensures.rings c.push_front.ensures.tags c.push_front.ensures.spare)
