-- The element goes beside the other in both rings.
use Rattle.std.proofs.Common.{◌≡◌, true, false, Some, sym, subst}
use Rattle.item_ring.specs.RingLists.{RingLists, IsLinkedIn, IsLoose}
use Rattle.item_ring.specs.RingLists as ring
use Rattle.graph_state.specs.declared.name.ListName.{ListName}
use Rattle.graph_state.specs.Names.{Has, same_element}
use Rattle.graph_state.specs.Beside.{beside}
use Rattle.graph_lists.specs.Named.{Lists, hook_at, list_at, shows_at}
use Rattle.graph_lists.specs.Steps.{member_beside}
use Rattle.graph_lists.specs.Tied.{AreTied}
use Rattle.graph_lists.proofs.Links.{is_beside, beside_linked, beside_seen, put_loose, tied_put}
use Rattle.graph_lists.proofs.Room.{room_set, room_on, room_is}
use Rattle.graph_lists.proofs.lists.Lists.put_beside.Goals as goal

pub insert_beside-requires-clause-at : goal.insert_beside-requires-clause-at
insert_beside-requires-clause-at c =
    let a = c.self.inside in
    let has = (subst (λ (o : Lists). (l : ListName) × Has c.args.y (list_at o.named l)) (sym c.self.view_is) c.requires.there) in let shows = (subst (λ (o : Lists). (shows_at o.named c.args.y ≡ true) × (shows_at o.named c.args.x ≡ true)) (sym c.self.view_is) c.requires.shows) in
    beside_linked a.seen.view a.rings c.self.invariant c.args.x c.args.hook.now (subst (λ (o : Lists). hook_at o.named c.args.x ≡ Some c.args.hook.now) (sym c.self.view_is) c.requires.hook) (beside same_element c.args.side) (member_beside c.args.side) (is_beside c.args.side) c.args.y c.args.beside.now (subst (λ (o : Lists). hook_at o.named c.args.y ≡ Some c.args.beside.now) (sym c.self.view_is) c.requires.beside) has.0 has.1 shows.0 shows.1

pub insert_beside-requires-clause-member : goal.insert_beside-requires-clause-member
insert_beside-requires-clause-member c =
    let a = c.self.inside in
    c.self.invariant.loose false c.args.x c.args.hook.now (subst (λ (o : Lists). hook_at o.named c.args.x ≡ Some c.args.hook.now) (sym c.self.view_is) c.requires.hook) (subst (λ (o : Lists). Has c.args.x o.named.loose) (sym c.self.view_is) c.requires.loose)

pub insert_beside-requires-2-clause-at : goal.insert_beside-requires-2-clause-at
insert_beside-requires-2-clause-at c =
    let a = c.self.inside in
    let has = (subst (λ (o : Lists). (l : ListName) × Has c.args.y (list_at o.named l)) (sym c.self.view_is) c.requires.there) in let shows = (subst (λ (o : Lists). (shows_at o.named c.args.y ≡ true) × (shows_at o.named c.args.x ≡ true)) (sym c.self.view_is) c.requires.shows) in
    beside_seen a.seen.view a.rings c.self.invariant c.args.x c.args.hook.now (subst (λ (o : Lists). hook_at o.named c.args.x ≡ Some c.args.hook.now) (sym c.self.view_is) c.requires.hook) (beside same_element c.args.side) (member_beside c.args.side) (is_beside c.args.side) c.args.y c.args.beside.now (subst (λ (o : Lists). hook_at o.named c.args.y ≡ Some c.args.beside.now) (sym c.self.view_is) c.requires.beside) has.0 has.1 shows.0 shows.1 c.insert_beside.new.rings c.insert_beside.ensures.rings

pub insert_beside-requires-2-clause-member : goal.insert_beside-requires-2-clause-member
insert_beside-requires-2-clause-member c =
    let a = c.self.inside in
    let has = (subst (λ (o : Lists). (l : ListName) × Has c.args.y (list_at o.named l)) (sym c.self.view_is) c.requires.there) in let shows = (subst (λ (o : Lists). (shows_at o.named c.args.y ≡ true) × (shows_at o.named c.args.x ≡ true)) (sym c.self.view_is) c.requires.shows) in
    put_loose a.seen.view a.rings c.self.invariant c.args.x c.args.hook.now (subst (λ (o : Lists). hook_at o.named c.args.x ≡ Some c.args.hook.now) (sym c.self.view_is) c.requires.hook) (beside same_element c.args.side) (member_beside c.args.side) (is_beside c.args.side) c.args.y c.args.beside.now (subst (λ (o : Lists). hook_at o.named c.args.y ≡ Some c.args.beside.now) (sym c.self.view_is) c.requires.beside) has.0 has.1 shows.0 shows.1 c.insert_beside.new.rings (subst (λ (o : Lists). Has c.args.x o.named.loose) (sym c.self.view_is) c.requires.loose) c.insert_beside.ensures.loose

pub invariant_of-self : goal.invariant_of-self
invariant_of-self c =
    let a = c.self.inside in
    let has = (subst (λ (o : Lists). (l : ListName) × Has c.args.y (list_at o.named l)) (sym c.self.view_is) c.requires.there) in let shows = (subst (λ (o : Lists). (shows_at o.named c.args.y ≡ true) × (shows_at o.named c.args.x ≡ true)) (sym c.self.view_is) c.requires.shows) in
    subst (λ u. AreTied u c.insert_beside-2.new.rings) (sym c.show_beside.ensures)
    (tied_put a.seen.view a.rings c.self.invariant c.args.x c.args.hook.now (subst (λ (o : Lists). hook_at o.named c.args.x ≡ Some c.args.hook.now) (sym c.self.view_is) c.requires.hook) (beside same_element c.args.side) (member_beside c.args.side) (is_beside c.args.side) c.args.y c.args.beside.now (subst (λ (o : Lists). hook_at o.named c.args.y ≡ Some c.args.beside.now) (sym c.self.view_is) c.requires.beside) has.0 has.1 shows.0 shows.1 c.insert_beside.new.rings c.insert_beside-2.new.rings c.insert_beside.ensures.rings c.insert_beside.ensures.tags c.insert_beside.ensures.loose c.insert_beside-2.ensures.rings c.insert_beside-2.ensures.tags c.insert_beside-2.ensures.loose c.insert_beside-2.ensures.apart)

pub returns-clause-room : goal.returns-clause-room
returns-clause-room c =
    let a = c.self.inside in
    let has = (subst (λ (o : Lists). (l : ListName) × Has c.args.y (list_at o.named l)) (sym c.self.view_is) c.requires.there) in let shows = (subst (λ (o : Lists). (shows_at o.named c.args.y ≡ true) × (shows_at o.named c.args.x ≡ true)) (sym c.self.view_is) c.requires.shows) in
    let one = beside_linked a.seen.view a.rings c.self.invariant c.args.x c.args.hook.now (subst (λ (o : Lists). hook_at o.named c.args.x ≡ Some c.args.hook.now) (sym c.self.view_is) c.requires.hook) (beside same_element c.args.side) (member_beside c.args.side) (is_beside c.args.side) c.args.y c.args.beside.now (subst (λ (o : Lists). hook_at o.named c.args.y ≡ Some c.args.beside.now) (sym c.self.view_is) c.requires.beside) has.0 has.1 shows.0 shows.1 in let two = beside_seen a.seen.view a.rings c.self.invariant c.args.x c.args.hook.now (subst (λ (o : Lists). hook_at o.named c.args.x ≡ Some c.args.hook.now) (sym c.self.view_is) c.requires.hook) (beside same_element c.args.side) (member_beside c.args.side) (is_beside c.args.side) c.args.y c.args.beside.now (subst (λ (o : Lists). hook_at o.named c.args.y ≡ Some c.args.beside.now) (sym c.self.view_is) c.requires.beside) has.0 has.1 shows.0 shows.1 c.insert_beside.new.rings c.insert_beside.ensures.rings in
    room_is c.args.self.now a (record { rings = c.insert_beside-2.new.rings; seen = c.show_beside.new.seen }) c.self.view_is
    (room_on a.rings c.insert_beside.new.rings c.insert_beside-2.new.rings (room_set a.rings c.insert_beside.new.rings one.0 _ one.1.head (c.insert_beside.ensures.rings one.0 one.1) c.insert_beside.ensures.tags c.insert_beside.ensures.spare) (room_set c.insert_beside.new.rings c.insert_beside-2.new.rings two.0 _ two.1.head (c.insert_beside-2.ensures.rings two.0 two.1) c.insert_beside-2.ensures.tags c.insert_beside-2.ensures.spare))
