-- The slot goes to the front of the chain.
use Rattle.std.proofs.Common.{sym, subst}
use Rattle.item_ring.specs.RingLists.{IsIn, IsLoose}
use Rattle.item_ring.proofs.Apart.{loose_used}
use Rattle.item_ring.proofs.Makes.{member_drop, next_used}
use Rattle.item_ring.proofs.Plans.{apart_now}
use Rattle.item_ring.proofs.rings.Rings.drop_member.Goals as goal

pub reset-requires-clause-slot : goal.reset-requires-clause-slot
reset-requires-clause-slot c =
    let a = c.self.inside in
    let loose : IsIn c.m.inside.slot a.seen.view.loose = subst (λ k. IsIn k a.seen.view.loose) (sym c.m.view_is) (subst (λ x. IsLoose x c.args.m) (sym c.self.view_is) c.requires) in
    loose_used a.nodes a.seen.view c.self.invariant.rings c.m.inside.slot loose

pub reset-requires-clause-next : goal.reset-requires-clause-next
reset-requires-clause-next c =
    let a = c.self.inside in
    let loose : IsIn c.m.inside.slot a.seen.view.loose = subst (λ k. IsIn k a.seen.view.loose) (sym c.m.view_is) (subst (λ x. IsLoose x c.args.m) (sym c.self.view_is) c.requires) in
    next_used a.nodes a.first_free a.free c.m.inside.slot c.next_free-next.result a.seen.view.free c.self.invariant.free (loose_used a.nodes a.seen.view c.self.invariant.rings c.m.inside.slot loose) c.next_free-next.ensures

pub invariant_of-self : goal.invariant_of-self
invariant_of-self c =
    let a = c.self.inside in
    let loose : IsIn c.m.inside.slot a.seen.view.loose = subst (λ k. IsIn k a.seen.view.loose) (sym c.m.view_is) (subst (λ x. IsLoose x c.args.m) (sym c.self.view_is) c.requires) in
    member_drop a c.self.invariant c.reset.new.self c.reset.ensures.len c.m.inside.slot c.next_free-next.result c.next_free-next.ensures c.reset.ensures.cell c.show.new.seen loose c.show.ensures

pub returns-clause-apart : goal.returns-clause-apart
returns-clause-apart c =
    let a = c.self.inside in
    let loose : IsIn c.m.inside.slot a.seen.view.loose = subst (λ k. IsIn k a.seen.view.loose) (sym c.m.view_is) (subst (λ x. IsLoose x c.args.m) (sym c.self.view_is) c.requires) in
    apart_now _ (member_drop a c.self.invariant c.reset.new.self c.reset.ensures.len c.m.inside.slot c.next_free-next.result c.next_free-next.ensures c.reset.ensures.cell c.show.new.seen loose c.show.ensures)
