-- The ring keeps `mid`, and there is one member more at most.
use Rattle.std.proofs.Common.{arith, inl, refl, sym, subst, ap}
use Rattle.std.specs.FinMap as map
use Rattle.item_ring.specs.RingLists.{IsIn, ring, with_after}
use Rattle.item_ring.proofs.Callers.{linked_on, linked_same, one_more, in_with_after}
use Rattle.item_ring.proofs.tests.add_behind.Goals as goal

pub insert_after-requires-clause-at : goal.insert_after-requires-clause-at
insert_after-requires-clause-at c =
    let now = linked_same c.args.rings.now c.add_member.new.self c.args.h c.args.mid c.add_member.ensures.same.0 c.requires.linked in
    (c.args.h, now)

pub insert_after-requires-clause-member : goal.insert_after-requires-clause-member
insert_after-requires-clause-member c = subst (λ l. IsIn c.in_ok-m.m l) (sym c.in_ok-m.ensures.made.2) (inl refl)

pub returns-in_err-m-clause-linked : goal.returns-in_err-m-clause-linked
returns-in_err-m-clause-linked c =
    let now = linked_same c.args.rings.now c.add_member.new.self c.args.h c.args.mid c.add_member.ensures.same.0 c.requires.linked in
    now

pub returns-in_err-m-clause-more : goal.returns-in_err-m-clause-more
returns-in_err-m-clause-more c = let same = ap (λ s. map.len s.tags) c.in_err-m.ensures.refused in omega (arith, same)

pub returns-clause-linked : goal.returns-clause-linked
returns-clause-linked c =
    let now = linked_same c.args.rings.now c.add_member.new.self c.args.h c.args.mid c.add_member.ensures.same.0 c.requires.linked in
    linked_on c.add_member.new.self c.insert_after.new.self c.args.h c.args.mid (with_after c.args.mid c.in_ok-m.m (ring c.add_member.new.self c.args.h)) (c.insert_after.ensures.rings c.args.h now) (in_with_after c.args.mid c.args.mid c.in_ok-m.m (ring c.add_member.new.self c.args.h) now.member)

pub returns-clause-more : goal.returns-clause-more
returns-clause-more c =
    let same = ap map.len c.insert_after.ensures.tags in
    let more = one_more c.args.rings.now.tags c.add_member.new.self.tags c.in_ok-m.m c.args.tag c.in_ok-m.ensures.made.1 in
    omega (arith, same, more)
