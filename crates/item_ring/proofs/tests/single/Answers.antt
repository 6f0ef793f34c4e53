-- The member is made behind the head.
use Rattle.std.proofs.Common.{[], is_some, arith, inl, refl, sym, subst, ap, ◌∙◌}
use Rattle.std.specs.FinMap as map
use Rattle.item_ring.specs.RingLists.{IsIn}
use Rattle.item_ring.proofs.Maps.{get_new}
use Rattle.std.specs.FinMap.{len-empty}
use Rattle.std.specs.Ordering.{nat_cmp}
use Rattle.std.proofs.Common.{List, ℕ}
use Rattle.item_ring.proofs.tests.single.Goals as goal

pub add_head-requires : goal.add_head-requires
add_head-requires c = let none = ap map.len c.new-rings.ensures.rings ∙ len-empty nat_cmp (List ℕ) in omega (arith, none)

pub add_member-requires : goal.add_member-requires
add_member-requires c = let none = ap map.len (c.add_head.ensures.same.1 ∙ c.new-rings.ensures.tags) ∙ len-empty nat_cmp ℕ in omega (arith, none)

pub returns-clause-head : goal.returns-clause-head
returns-clause-head c = ap (λ r. map.contains_key r c.in_ok-h.h) (c.add_member.ensures.same.0 ∙ c.in_ok-h.ensures.made.1) ∙ ap is_some (get_new c.new-rings.result.rings c.in_ok-h.h [])

pub returns-clause-loose : goal.returns-clause-loose
returns-clause-loose c = subst (IsIn c.in_ok-m.m) (sym c.in_ok-m.ensures.made.2) (inl refl)
