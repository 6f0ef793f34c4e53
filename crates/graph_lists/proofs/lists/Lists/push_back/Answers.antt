-- The element goes to the end of both rings, or of the first.
use Rattle.std.proofs.Common.{◌≡◌, false, Some, sym, subst}
use Rattle.graph_state.specs.Names.{Has}
use Rattle.graph_lists.specs.Named.{Lists, head_at, hook_at, list_at, shows_at}
use Rattle.graph_lists.specs.Tied.{AreTied}
use Rattle.graph_lists.specs.Steps.{Pushes}
use Rattle.graph_lists.proofs.Rows.{is_head}
use Rattle.graph_lists.proofs.Links.{push_head, push_loose, tied_pushed}
use Rattle.graph_lists.proofs.Room.{room_set, room_on, room_if, room_is}
use Rattle.graph_lists.proofs.lists.Lists.push_back.Goals as goal

pub push_back-requires-clause-head : goal.push_back-requires-clause-head
push_back-requires-clause-head c =
    let a = c.self.inside in
    is_head a.seen.view a.rings false c.args.list (list_at a.seen.view c.args.list) c.args.head.now.full
    (c.self.invariant.rows false c.args.list c.args.head.now (subst (λ (o : Lists). head_at o.named c.args.list ≡ Some c.args.head.now) (sym c.self.view_is) c.requires.head))

pub push_back-requires-clause-member : goal.push_back-requires-clause-member
push_back-requires-clause-member c =
    c.self.invariant.loose false c.args.x c.args.hook.now (subst (λ (o : Lists). hook_at o.named c.args.x ≡ Some c.args.hook.now) (sym c.self.view_is) c.requires.hook) (subst (λ (o : Lists). Has c.args.x o.named.loose) (sym c.self.view_is) c.requires.loose)

pub push_shown-requires-clause-head : goal.push_shown-requires-clause-head
push_shown-requires-clause-head c =
    let a = c.self.inside in
    push_head a.seen.view a.rings c.self.invariant c.args.x c.args.hook.now (subst (λ (o : Lists). hook_at o.named c.args.x ≡ Some c.args.hook.now) (sym c.self.view_is) c.requires.hook)
    c.args.list c.args.head.now (subst (λ (o : Lists). head_at o.named c.args.list ≡ Some c.args.head.now) (sym c.self.view_is) c.requires.head) c.push_back.new.self
    (record { rings = c.push_back.ensures.rings; loose = c.push_back.ensures.loose; tags = c.push_back.ensures.tags; spare = c.push_back.ensures.spare; apart = c.push_back.ensures.apart })

pub push_shown-requires-clause-member : goal.push_shown-requires-clause-member
push_shown-requires-clause-member c shown =
    let a = c.self.inside in
    push_loose a.seen.view a.rings c.self.invariant c.args.x c.args.hook.now (subst (λ (o : Lists). hook_at o.named c.args.x ≡ Some c.args.hook.now) (sym c.self.view_is) c.requires.hook)
    c.args.list c.args.head.now (subst (λ (o : Lists). head_at o.named c.args.list ≡ Some c.args.head.now) (sym c.self.view_is) c.requires.head) c.push_back.new.self (subst (λ (o : Lists). Has c.args.x o.named.loose) (sym c.self.view_is) c.requires.loose)
    (record { rings = c.push_back.ensures.rings; loose = c.push_back.ensures.loose; tags = c.push_back.ensures.tags; spare = c.push_back.ensures.spare; apart = c.push_back.ensures.apart })

pub invariant_of-self : goal.invariant_of-self
invariant_of-self c =
    let a = c.self.inside in
    subst (λ u. AreTied u c.push_shown.new.rings) (sym c.show.ensures)
    (tied_pushed a.seen.view a.rings c.self.invariant c.args.x c.args.hook.now (subst (λ (o : Lists). hook_at o.named c.args.x ≡ Some c.args.hook.now) (sym c.self.view_is) c.requires.hook)
    c.args.list c.args.head.now (subst (λ (o : Lists). head_at o.named c.args.list ≡ Some c.args.head.now) (sym c.self.view_is) c.requires.head) c.push_back.new.self c.push_shown.new.rings c.args.shows
    (subst (λ (o : Lists). c.args.shows ≡ shows_at o.named c.args.x) (sym c.self.view_is) c.requires.shows)
    (record { rings = c.push_back.ensures.rings; loose = c.push_back.ensures.loose; tags = c.push_back.ensures.tags; spare = c.push_back.ensures.spare; apart = c.push_back.ensures.apart })
    c.push_shown.ensures)

pub returns-clause-room : goal.returns-clause-room
returns-clause-room c =
    let a = c.self.inside in
    let there = subst (λ (o : Lists). head_at o.named c.args.list ≡ Some c.args.head.now) (sym c.self.view_is) c.requires.head in
    let hook = subst (λ (o : Lists). hook_at o.named c.args.x ≡ Some c.args.hook.now) (sym c.self.view_is) c.requires.hook in
    let pushes : Pushes a.rings c.push_back.new.self c.args.head.now.full c.args.hook.now.full = record {
      rings = c.push_back.ensures.rings;
      loose = c.push_back.ensures.loose;
      tags = c.push_back.ensures.tags;
      spare = c.push_back.ensures.spare;
      apart = c.push_back.ensures.apart;
    } in
    let head = is_head a.seen.view a.rings false c.args.list (list_at a.seen.view c.args.list) c.args.head.now.full (c.self.invariant.rows false c.args.list c.args.head.now there) in
    room_is c.args.self.now a (record { rings = c.push_shown.new.rings; seen = c.show.new.seen }) c.self.view_is
    (room_on a.rings c.push_back.new.self c.push_shown.new.rings
    (room_set a.rings c.push_back.new.self c.args.head.now.full _ head pushes.rings pushes.tags pushes.spare)
    (room_if c.args.shows c.push_back.new.self c.push_shown.new.rings c.args.head.now.shown c.args.hook.now.shown
    (push_head a.seen.view a.rings c.self.invariant c.args.x c.args.hook.now hook c.args.list c.args.head.now there c.push_back.new.self pushes) c.push_shown.ensures))
