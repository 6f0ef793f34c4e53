-- One member is made and tied in.
use Rattle.std.proofs.Common.{[], ◌∷◌, ◌++◌, arith, inl, refl, sym, subst, ap, ◌∙◌}
use Rattle.std.specs.FinMap as map
use Rattle.std.specs.FinMap.{len-empty}
use Rattle.std.specs.Ordering.{nat_cmp}
use Rattle.std.proofs.Common.{List, ℕ, is_some}
use Rattle.item_ring.specs.RingLists.{IsIn, ring}
use Rattle.item_ring.proofs.Callers.{linked_on, one_more}
use Rattle.item_ring.proofs.Lists.{in_right}
use Rattle.item_ring.proofs.Maps.{get_new}
use Rattle.item_ring.proofs.tests.begin.Goals as goal

pub reserve-requires-clause-heads : goal.reserve-requires-clause-heads
reserve-requires-clause-heads c = let none = ap map.len c.new-rings.ensures.rings ∙ len-empty nat_cmp (List ℕ) in omega (arith, none)

pub reserve-requires-clause-members : goal.reserve-requires-clause-members
reserve-requires-clause-members c = let none = ap map.len c.new-rings.ensures.tags ∙ len-empty nat_cmp ℕ in omega (arith, none)

pub add_head-requires : goal.add_head-requires
add_head-requires c = let none = ap map.len (c.reserve.ensures.same.0 ∙ c.new-rings.ensures.rings) ∙ len-empty nat_cmp (List ℕ) in omega (arith, none)

pub add_member-requires : goal.add_member-requires
add_member-requires c = let none = ap map.len (c.add_head.ensures.same.1 ∙ c.reserve.ensures.same.2 ∙ c.new-rings.ensures.tags) ∙ len-empty nat_cmp ℕ in omega (arith, none)

pub push_back-requires-clause-head : goal.push_back-requires-clause-head
push_back-requires-clause-head c = ap (λ r. map.contains_key r c.in_ok-h.h) (c.add_member.ensures.same.0 ∙ c.in_ok-h.ensures.made.1) ∙ ap is_some (get_new c.reserve.new.self.rings c.in_ok-h.h [])

pub push_back-requires-clause-member : goal.push_back-requires-clause-member
push_back-requires-clause-member c = subst (λ l. IsIn c.in_ok-mid.mid l) (sym c.in_ok-mid.ensures.made.2) (inl refl)

pub returns-clause-linked : goal.returns-clause-linked
returns-clause-linked c =
    let old = ring c.add_member.new.self c.in_ok-h.h in
    linked_on c.add_member.new.self c.push_back.new.self c.in_ok-h.h c.in_ok-mid.mid (old ++ c.in_ok-mid.mid ∷ []) c.push_back.ensures.rings (in_right c.in_ok-mid.mid old (c.in_ok-mid.mid ∷ []) (inl refl))

pub returns-clause-few : goal.returns-clause-few
returns-clause-few c =
    let none = ap map.len (c.add_head.ensures.same.1 ∙ c.reserve.ensures.same.2 ∙ c.new-rings.ensures.tags) ∙ len-empty nat_cmp ℕ in
    let more = one_more c.add_head.new.self.tags c.add_member.new.self.tags c.in_ok-mid.mid 7 c.in_ok-mid.ensures.made.1 in
    let same = ap map.len c.push_back.ensures.tags in
    omega (arith, none, more, same)
