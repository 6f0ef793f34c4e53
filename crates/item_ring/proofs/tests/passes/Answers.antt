-- The member is alone in front, and then loose.
use Rattle.std.proofs.Common.{◌∷◌, is_some, inl, inr, refl, sym, subst, ap, ◌∙◌}
use Rattle.std.specs.FinMap as map
use Rattle.item_ring.specs.RingLists.{IsIn, ring, without}
use Rattle.item_ring.proofs.Maps.{get_new}
use Rattle.item_ring.proofs.Callers.{linked_on}
use Rattle.item_ring.proofs.tests.passes.Goals as goal

pub is_linked-linked-requires : goal.is_linked-linked-requires
is_linked-linked-requires c = c.push_front.ensures.apart.tagged c.args.m (inl (c.args.h, linked_on c.args.rings.now c.push_front.new.self c.args.h c.args.m (c.args.m ∷ ring c.args.rings.now c.args.h) c.push_front.ensures.rings (inl refl)))

pub head_of-requires : goal.head_of-requires
head_of-requires c = (c.args.h, linked_on c.args.rings.now c.push_front.new.self c.args.h c.args.m (c.args.m ∷ ring c.args.rings.now c.args.h) c.push_front.ensures.rings (inl refl))

pub cyclic_next-requires : goal.cyclic_next-requires
cyclic_next-requires c = (c.args.h, linked_on c.args.rings.now c.push_front.new.self c.args.h c.args.m (c.args.m ∷ ring c.args.rings.now c.args.h) c.push_front.ensures.rings (inl refl))

pub cyclic_prev-requires : goal.cyclic_prev-requires
cyclic_prev-requires c = (c.args.h, linked_on c.args.rings.now c.push_front.new.self c.args.h c.args.m (c.args.m ∷ ring c.args.rings.now c.args.h) c.push_front.ensures.rings (inl refl))

pub unlink-requires : goal.unlink-requires
unlink-requires c = (c.args.h, linked_on c.args.rings.now c.push_front.new.self c.args.h c.args.m (c.args.m ∷ ring c.args.rings.now c.args.h) c.push_front.ensures.rings (inl refl))

pub tag-tag-requires : goal.tag-tag-requires
tag-tag-requires c = c.push_front.ensures.apart.tagged c.args.m (inl (c.args.h, linked_on c.args.rings.now c.push_front.new.self c.args.h c.args.m (c.args.m ∷ ring c.args.rings.now c.args.h) c.push_front.ensures.rings (inl refl)))

pub is_linked-loose-requires : goal.is_linked-loose-requires
is_linked-loose-requires c = c.unlink.ensures.apart.tagged c.args.m (inr (subst (IsIn c.args.m) (sym c.unlink.ensures.loose) (inl refl)))

pub returns-clause-head : goal.returns-clause-head
returns-clause-head c = ap (λ r. map.contains_key r c.args.h) (c.unlink.ensures.rings c.args.h (linked_on c.args.rings.now c.push_front.new.self c.args.h c.args.m (c.args.m ∷ ring c.args.rings.now c.args.h) c.push_front.ensures.rings (inl refl))) ∙ ap is_some (get_new c.push_front.new.self.rings c.args.h (without c.args.m (ring c.push_front.new.self c.args.h)))

pub returns-clause-loose : goal.returns-clause-loose
returns-clause-loose c = subst (IsIn c.args.m) (sym c.unlink.ensures.loose) (inl refl)
