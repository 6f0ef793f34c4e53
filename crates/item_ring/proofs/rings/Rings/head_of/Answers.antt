-- The member names its ring.
use Rattle.std.proofs.Common.{sym, subst, ap}
use Rattle.item_ring.specs.declared.block.Cell.{Cell}
use Rattle.item_ring.specs.RingsHold.{lists_of}
use Rattle.item_ring.specs.RingLists.{IsLinked, IsLinkedIn, AreApart}
use Rattle.item_ring.proofs.Looks.{home_of}
use Rattle.item_ring.proofs.Plans.{is_linked, at_used, apart_now}
use Rattle.item_ring.proofs.rings.Rings.head_of.Goals as goal

pub get-requires : goal.get-requires
get-requires c =
    let a = c.self.inside in
    let linked = is_linked a c.self.invariant c.m.inside.slot (subst (λ k. IsLinked (lists_of a) k) (sym c.m.view_is) (subst (λ x. IsLinked x c.args.m) (sym c.self.view_is) c.requires)) in
    at_used a c.self.invariant c.m.inside.slot linked

pub returns-clause-head : goal.returns-clause-head
returns-clause-head c =
    let a = c.self.inside in
    let linked = is_linked a c.self.invariant c.m.inside.slot (subst (λ k. IsLinked (lists_of a) k) (sym c.m.view_is) (subst (λ x. IsLinked x c.args.m) (sym c.self.view_is) c.requires)) in
    let is = subst (λ k. IsLinkedIn (lists_of a) k c.m.inside.slot) (sym (ap (λ (x : Cell). x.ring) c.get.ensures)) (home_of a c.self.invariant c.m.inside.slot linked) in
    let at_m = subst (λ k. IsLinkedIn (lists_of a) c.get.result.ring k) c.m.view_is is in
    subst (λ x. IsLinkedIn x c.get.result.ring c.args.m) c.self.view_is at_m

pub returns-clause-apart : goal.returns-clause-apart
returns-clause-apart c = subst AreApart c.self.view_is (apart_now c.self.inside c.self.invariant)
