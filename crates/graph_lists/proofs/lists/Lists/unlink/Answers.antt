-- The element leaves both rings, or the one that it is in.
use Rattle.std.proofs.Common.{◌≡◌, Some, sym, subst}
use Rattle.graph_state.specs.declared.name.ListName.{ListName}
use Rattle.graph_state.specs.Names.{Has}
use Rattle.graph_lists.specs.Named.{Lists, Leaves, hook_at, list_at}
use Rattle.graph_lists.specs.Tied.{AreTied}
use Rattle.graph_lists.proofs.Rows.{some_head, linked_full}
use Rattle.graph_lists.proofs.Links.{out_tagged, tied_unlinked}
use Rattle.graph_lists.proofs.Leaving.{leaves}
use Rattle.graph_lists.proofs.Room.{room_set, room_on, room_out, room_is}
use Rattle.graph_lists.proofs.lists.Lists.unlink.Goals as goal

pub unlink-requires : goal.unlink-requires
unlink-requires c =
    let a = c.self.inside in
    let has = (subst (λ (o : Lists). (l : ListName) × Has c.args.x (list_at o.named l)) (sym c.self.view_is) c.requires.there) in
    let h = some_head a.seen.view a.rings c.self.invariant has.0 c.args.x has.1 in (h.0.full, linked_full a.seen.view a.rings c.self.invariant has.0 h.0 c.args.x c.args.hook.now h.1 (subst (λ (o : Lists). hook_at o.named c.args.x ≡ Some c.args.hook.now) (sym c.self.view_is) c.requires.hook) has.1)

pub unlink_shown-requires : goal.unlink_shown-requires
unlink_shown-requires c =
    let a = c.self.inside in
    let has = (subst (λ (o : Lists). (l : ListName) × Has c.args.x (list_at o.named l)) (sym c.self.view_is) c.requires.there) in
    out_tagged a.seen.view a.rings c.self.invariant c.args.x c.args.hook.now (subst (λ (o : Lists). hook_at o.named c.args.x ≡ Some c.args.hook.now) (sym c.self.view_is) c.requires.hook) has.0 has.1 c.unlink.new.self (record { rings = c.unlink.ensures.rings; loose = c.unlink.ensures.loose; tags = c.unlink.ensures.tags; spare = c.unlink.ensures.spare; apart = c.unlink.ensures.apart })

pub invariant_of-self : goal.invariant_of-self
invariant_of-self c =
    let a = c.self.inside in
    let has = (subst (λ (o : Lists). (l : ListName) × Has c.args.x (list_at o.named l)) (sym c.self.view_is) c.requires.there) in
    subst (λ u. AreTied u c.unlink_shown.new.rings) (sym c.show.ensures) (tied_unlinked a.seen.view a.rings c.self.invariant c.args.x c.args.hook.now (subst (λ (o : Lists). hook_at o.named c.args.x ≡ Some c.args.hook.now) (sym c.self.view_is) c.requires.hook) has.0 has.1 c.unlink.new.self (record { rings = c.unlink.ensures.rings; loose = c.unlink.ensures.loose; tags = c.unlink.ensures.tags; spare = c.unlink.ensures.spare; apart = c.unlink.ensures.apart }) c.unlink_shown.new.rings c.unlink_shown.ensures)

pub returns-clause-room : goal.returns-clause-room
returns-clause-room c =
    let a = c.self.inside in
    let has = (subst (λ (o : Lists). (l : ListName) × Has c.args.x (list_at o.named l)) (sym c.self.view_is) c.requires.there) in
    let h = some_head a.seen.view a.rings c.self.invariant has.0 c.args.x has.1 in
    let linked = linked_full a.seen.view a.rings c.self.invariant has.0 h.0 c.args.x c.args.hook.now h.1 (subst (λ (o : Lists). hook_at o.named c.args.x ≡ Some c.args.hook.now) (sym c.self.view_is) c.requires.hook) has.1 in
    room_is c.args.self.now a (record { rings = c.unlink_shown.new.rings; seen = c.show.new.seen }) c.self.view_is
    (room_on a.rings c.unlink.new.self c.unlink_shown.new.rings (room_set a.rings c.unlink.new.self h.0.full _ linked.head (c.unlink.ensures.rings h.0.full linked) c.unlink.ensures.tags c.unlink.ensures.spare) (room_out c.unlink.new.self c.unlink_shown.new.rings c.args.hook.now.shown c.unlink_shown.ensures))

pub returns-clause-leaves : goal.returns-clause-leaves
returns-clause-leaves c =
    let a = c.self.inside in
    subst (λ (o : Lists). Leaves o.named c.show.new.seen.view c.args.x) c.self.view_is
    (subst (λ u. Leaves a.seen.view u c.args.x) (sym c.show.ensures) (leaves a.seen.view a.rings c.self.invariant c.args.x))
