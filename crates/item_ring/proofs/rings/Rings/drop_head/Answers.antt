-- The slot goes to the front of the chain.
use Rattle.std.proofs.Common.{◌≡◌, [], sym, subst}
use Rattle.item_ring.specs.RingsHold.{lists_of}
use Rattle.item_ring.specs.RingLists.{IsHead, ring}
use Rattle.item_ring.proofs.Apart.{head_used}
use Rattle.item_ring.proofs.Makes.{head_drop, next_used}
use Rattle.item_ring.proofs.Plans.{apart_now}
use Rattle.item_ring.proofs.rings.Rings.drop_head.Goals as goal

pub reset-requires-clause-next : goal.reset-requires-clause-next
reset-requires-clause-next c =
    let a = c.self.inside in
    let key = subst (λ k. IsHead (lists_of a) k) (sym c.h.view_is) (subst (λ x. IsHead x c.args.h) (sym c.self.view_is) c.requires.head) in
    next_used a.nodes a.first_free a.free c.h.inside.slot c.next_free-next.result a.seen.view.free c.self.invariant.free (head_used a.nodes a.seen.view c.self.invariant.rings c.h.inside.slot key) c.next_free-next.ensures

pub invariant_of-self : goal.invariant_of-self
invariant_of-self c =
    let a = c.self.inside in
    let key = subst (λ k. IsHead (lists_of a) k) (sym c.h.view_is) (subst (λ x. IsHead x c.args.h) (sym c.self.view_is) c.requires.head) in
    let empty = subst (λ k. ring (lists_of a) k ≡ []) (sym c.h.view_is) (subst (λ x. ring x c.args.h ≡ []) (sym c.self.view_is) c.requires.empty) in
    head_drop a c.self.invariant c.reset.new.self c.reset.ensures.len c.h.inside.slot c.next_free-next.result c.next_free-next.ensures c.reset.ensures.cell c.show.new.seen key empty c.show.ensures

pub returns-clause-apart : goal.returns-clause-apart
returns-clause-apart c =
    let a = c.self.inside in
    let key = subst (λ k. IsHead (lists_of a) k) (sym c.h.view_is) (subst (λ x. IsHead x c.args.h) (sym c.self.view_is) c.requires.head) in
    let empty = subst (λ k. ring (lists_of a) k ≡ []) (sym c.h.view_is) (subst (λ x. ring x c.args.h ≡ []) (sym c.self.view_is) c.requires.empty) in
    apart_now _ (head_drop a c.self.invariant c.reset.new.self c.reset.ensures.len c.h.inside.slot c.next_free-next.result c.next_free-next.ensures c.reset.ensures.cell c.show.new.seen key empty c.show.ensures)
