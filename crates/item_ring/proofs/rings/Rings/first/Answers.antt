-- The head's own link leads there.
use Rattle.std.proofs.Common.{◌≡◌, sym, subst, ap, ◌∙◌}
use Rattle.item_ring.specs.declared.block.Cell.{Cell}
use Rattle.item_ring.specs.RingsHold.{lists_of}
use Rattle.item_ring.specs.RingLists.{IsHead, AreApart, ring, front, unless_equal}
use Rattle.item_ring.proofs.Apart.{head_used}
use Rattle.item_ring.proofs.Looks.{first_look}
use Rattle.item_ring.proofs.Plans.{apart_now}
use Rattle.item_ring.proofs.rings.Rings.first.Goals as goal

pub get-requires : goal.get-requires
get-requires c =
    let a = c.self.inside in
    let key = subst (λ k. IsHead (lists_of a) k) (sym c.h.view_is) (subst (λ x. IsHead x c.args.h) (sym c.self.view_is) c.requires) in
    head_used a.nodes a.seen.view c.self.invariant.rings c.h.inside.slot key

pub returns-clause-first : goal.returns-clause-first
returns-clause-first c =
    let a = c.self.inside in
    let key = subst (λ k. IsHead (lists_of a) k) (sym c.h.view_is) (subst (λ x. IsHead x c.args.h) (sym c.self.view_is) c.requires) in
    let is = c.unless_head.ensures ∙ ap (λ (x : Cell). unless_equal x.next c.h.inside.slot) c.get.ensures ∙ first_look a c.self.invariant c.h.inside.slot key in
    let at_h = subst (λ k. c.unless_head.result ≡ front (ring (lists_of a) k)) c.h.view_is is in
    subst (λ x. c.unless_head.result ≡ front (ring x c.args.h)) c.self.view_is at_h

pub returns-clause-apart : goal.returns-clause-apart
returns-clause-apart c = subst AreApart c.self.view_is (apart_now c.self.inside c.self.invariant)
