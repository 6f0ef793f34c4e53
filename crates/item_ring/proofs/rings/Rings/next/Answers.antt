-- The member's own link leads there, or to its head.
use Rattle.std.proofs.Common.{sym, subst, ap, ◌∙◌}
use Rattle.item_ring.specs.declared.block.Cell.{Cell}
use Rattle.item_ring.specs.RingsHold.{lists_of}
use Rattle.item_ring.specs.RingLists.{IsLinked, StandsBetween, AreApart, unless_equal}
use Rattle.item_ring.proofs.Looks.{stands_next}
use Rattle.item_ring.proofs.Plans.{is_linked, at_used, apart_now}
use Rattle.item_ring.proofs.rings.Rings.next.Goals as goal

pub get-cell-requires : goal.get-cell-requires
get-cell-requires c =
    let a = c.self.inside in
    let linked = is_linked a c.self.invariant c.m.inside.slot (subst (λ k. IsLinked (lists_of a) k) (sym c.m.view_is) (subst (λ x. IsLinked x c.args.m) (sym c.self.view_is) c.requires)) in
    at_used a c.self.invariant c.m.inside.slot linked

pub returns-clause-next : goal.returns-clause-next
returns-clause-next c = λ h before behind b.
    let a = c.self.inside in
    let stands = subst (λ k. StandsBetween (lists_of a) h k before behind) (sym c.m.view_is) (subst (λ x. StandsBetween x h c.args.m before behind) (sym c.self.view_is) b) in
    c.unless_head.ensures ∙ ap (λ (x : Cell). unless_equal x.next x.ring) c.get-cell.ensures ∙ stands_next a c.self.invariant h c.m.inside.slot before behind stands

pub returns-clause-apart : goal.returns-clause-apart
returns-clause-apart c = subst AreApart c.self.view_is (apart_now c.self.inside c.self.invariant)
