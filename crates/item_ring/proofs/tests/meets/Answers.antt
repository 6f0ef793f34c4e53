-- Both are in the ring.
use Rattle.std.proofs.Common.{inl, refl, sym, subst}
use Rattle.item_ring.specs.RingLists.{IsIn, ring, with_before}
use Rattle.item_ring.proofs.Callers.{linked_on, new_with_before, in_with_before}
use Rattle.item_ring.proofs.tests.meets.Goals as goal

pub insert_before-requires-clause-at : goal.insert_before-requires-clause-at
insert_before-requires-clause-at c = (c.args.h, c.requires.linked)

pub prev-requires : goal.prev-requires
prev-requires c = (c.args.h, linked_on c.args.rings.now c.insert_before.new.self c.args.h c.args.a (with_before c.args.a c.args.b (ring c.args.rings.now c.args.h)) (c.insert_before.ensures.rings c.args.h c.requires.linked) (in_with_before c.args.a c.args.a c.args.b (ring c.args.rings.now c.args.h) c.requires.linked.member))

pub unlink-requires : goal.unlink-requires
unlink-requires c = (c.args.h, linked_on c.args.rings.now c.insert_before.new.self c.args.h c.args.b (with_before c.args.a c.args.b (ring c.args.rings.now c.args.h)) (c.insert_before.ensures.rings c.args.h c.requires.linked) (new_with_before c.args.a c.args.b (ring c.args.rings.now c.args.h) c.requires.linked.member))

pub drop_member-requires : goal.drop_member-requires
drop_member-requires c = subst (IsIn c.args.b) (sym c.unlink.ensures.loose) (inl refl)
