-- The element leaves the second ring.
use Rattle.std.proofs.Common.{◌≡◌, true, Some, sym, subst}
use Rattle.graph_state.specs.declared.name.ListName.{ListName}
use Rattle.graph_state.specs.Names.{Has}
use Rattle.graph_lists.specs.Named.{Lists, hook_at, list_at, shows_at}
use Rattle.graph_lists.specs.Tied.{AreTied}
use Rattle.graph_lists.proofs.Links.{hide_linked, tied_hidden}
use Rattle.graph_lists.proofs.Room.{room_set, room_is}
use Rattle.graph_lists.proofs.lists.Lists.hide.Goals as goal

pub unlink-requires : goal.unlink-requires
unlink-requires c =
    let a = c.self.inside in
    let has = (subst (λ (o : Lists). (l : ListName) × Has c.args.x (list_at o.named l)) (sym c.self.view_is) c.requires.there) in
    hide_linked a.seen.view a.rings c.self.invariant c.args.x c.args.hook.now (subst (λ (o : Lists). hook_at o.named c.args.x ≡ Some c.args.hook.now) (sym c.self.view_is) c.requires.hook) has.0 has.1 (subst (λ (o : Lists). shows_at o.named c.args.x ≡ true) (sym c.self.view_is) c.requires.shows)

pub invariant_of-self : goal.invariant_of-self
invariant_of-self c =
    let a = c.self.inside in
    let has = (subst (λ (o : Lists). (l : ListName) × Has c.args.x (list_at o.named l)) (sym c.self.view_is) c.requires.there) in
    subst (λ u. AreTied u c.unlink.new.self) (sym c.show_mark.ensures) (tied_hidden a.seen.view a.rings c.self.invariant c.args.x c.args.hook.now (subst (λ (o : Lists). hook_at o.named c.args.x ≡ Some c.args.hook.now) (sym c.self.view_is) c.requires.hook) has.0 has.1 (subst (λ (o : Lists). shows_at o.named c.args.x ≡ true) (sym c.self.view_is) c.requires.shows) c.unlink.new.self (record { rings = c.unlink.ensures.rings; loose = c.unlink.ensures.loose; tags = c.unlink.ensures.tags; spare = c.unlink.ensures.spare; apart = c.unlink.ensures.apart }))

pub returns-clause-room : goal.returns-clause-room
returns-clause-room c =
    let a = c.self.inside in
    let has = (subst (λ (o : Lists). (l : ListName) × Has c.args.x (list_at o.named l)) (sym c.self.view_is) c.requires.there) in
    let linked = hide_linked a.seen.view a.rings c.self.invariant c.args.x c.args.hook.now (subst (λ (o : Lists). hook_at o.named c.args.x ≡ Some c.args.hook.now) (sym c.self.view_is) c.requires.hook) has.0 has.1 (subst (λ (o : Lists). shows_at o.named c.args.x ≡ true) (sym c.self.view_is) c.requires.shows) in
    room_is c.args.self.now a (record { rings = c.unlink.new.self; seen = c.show_mark.new.seen }) c.self.view_is
    (room_set a.rings c.unlink.new.self linked.0 _ linked.1.head (c.unlink.ensures.rings linked.0 linked.1) c.unlink.ensures.tags c.unlink.ensures.spare)
