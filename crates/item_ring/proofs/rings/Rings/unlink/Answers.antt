-- The member's own links lead to the two that are tied to each other.
use Rattle.std.proofs.Common.{◌≡◌, ◌<◌, arith, true, sym, subst, ap, ◌∙◌}
use Rattle.std.specs.FinMap as map
use Rattle.item_ring.specs.declared.block.Cell.{Cell}
use Rattle.item_ring.specs.RingsHold.{lists_of}
use Rattle.item_ring.specs.RingLists.{IsLinked, IsLinkedIn, list_in, ring, without}
use Rattle.item_ring.proofs.Plans.{out_counted, out_holds, apart_now, is_linked, home_is, home_key, at_used}
use Rattle.item_ring.proofs.Apart.{head_used}
use Rattle.item_ring.proofs.rings.Rings.unlink.Goals as goal

pub get-head-requires : goal.get-head-requires
get-head-requires c =
    let a = c.self.inside in
    let linked = is_linked a c.self.invariant c.m.inside.slot (subst (λ k. IsLinked (lists_of a) k) (sym c.m.view_is) (subst (λ x. IsLinked x c.args.m) (sym c.self.view_is) c.requires)) in
    at_used a c.self.invariant c.m.inside.slot linked

pub get-count-requires : goal.get-count-requires
get-count-requires c =
    let a = c.self.inside in
    let linked = is_linked a c.self.invariant c.m.inside.slot (subst (λ k. IsLinked (lists_of a) k) (sym c.m.view_is) (subst (λ x. IsLinked x c.args.m) (sym c.self.view_is) c.requires)) in
    let home = ap (λ (x : Cell). x.ring) c.get-head.ensures in
    let h = c.get-head.result.ring in
    head_used a.nodes a.seen.view c.self.invariant.rings h (subst (λ k. map.contains_key a.seen.view.rings k ≡ true) (sym home) (home_key a c.self.invariant c.m.inside.slot linked))

pub overflow_sub-count : goal.overflow_sub-count
overflow_sub-count c =
    let a = c.self.inside in
    let linked = is_linked a c.self.invariant c.m.inside.slot (subst (λ k. IsLinked (lists_of a) k) (sym c.m.view_is) (subst (λ x. IsLinked x c.args.m) (sym c.self.view_is) c.requires)) in
    let home = ap (λ (x : Cell). x.ring) c.get-head.ensures in
    let h = c.get-head.result.ring in
    let some = subst (λ n. 0 < n) (sym (ap (λ (x : Cell). x.value) c.get-count.ensures)) (out_counted a c.self.invariant c.m.inside.slot linked h home) in omega (arith, some)

pub invariant_of-self : goal.invariant_of-self
invariant_of-self c =
    let a = c.self.inside in
    let linked = is_linked a c.self.invariant c.m.inside.slot (subst (λ k. IsLinked (lists_of a) k) (sym c.m.view_is) (subst (λ x. IsLinked x c.args.m) (sym c.self.view_is) c.requires)) in
    let home = ap (λ (x : Cell). x.ring) c.get-head.ensures in
    let h = c.get-head.result.ring in
    out_holds a c.self.invariant c.m.inside.slot linked h home c.unsplice.new.self c.set_value.new.self _ c.unsplice.ensures c.set_value.ensures.len c.set_value.ensures.cell (let some = subst (λ n. 0 < n) (sym (ap (λ (x : Cell). x.value) c.get-count.ensures)) (out_counted a c.self.invariant c.m.inside.slot linked h home) in let is = ap (λ (x : Cell). x.value) c.get-count.ensures in omega (arith, some, is)) c.show.new.seen c.show.ensures

pub returns-clause-apart : goal.returns-clause-apart
returns-clause-apart c =
    let a = c.self.inside in
    let linked = is_linked a c.self.invariant c.m.inside.slot (subst (λ k. IsLinked (lists_of a) k) (sym c.m.view_is) (subst (λ x. IsLinked x c.args.m) (sym c.self.view_is) c.requires)) in
    let home = ap (λ (x : Cell). x.ring) c.get-head.ensures in
    let h = c.get-head.result.ring in
    apart_now _ (out_holds a c.self.invariant c.m.inside.slot linked h home c.unsplice.new.self c.set_value.new.self _ c.unsplice.ensures c.set_value.ensures.len c.set_value.ensures.cell (let some = subst (λ n. 0 < n) (sym (ap (λ (x : Cell). x.value) c.get-count.ensures)) (out_counted a c.self.invariant c.m.inside.slot linked h home) in let is = ap (λ (x : Cell). x.value) c.get-count.ensures in omega (arith, some, is)) c.show.new.seen c.show.ensures)

pub returns-clause-rings : goal.returns-clause-rings
returns-clause-rings c = λ h l.
    let a = c.self.inside in
    let home = ap (λ (x : Cell). x.ring) c.get-head.ensures in
    let l' = subst (λ k. IsLinkedIn (lists_of a) h k) (sym c.m.view_is) (subst (λ x. IsLinkedIn x h c.args.m) (sym c.self.view_is) l) in
    let same = home ∙ home_is a c.self.invariant h c.m.inside.slot l' in
    let is = ap (λ x. x.rings) c.show.ensures in
    let at_h = subst (λ k. c.show.new.seen.view.rings ≡ map.insert a.seen.view.rings k (without c.m.inside.slot (list_in a.seen.view.rings k))) same is in
    let at_m = subst (λ k. c.show.new.seen.view.rings ≡ map.insert a.seen.view.rings h (without k (list_in a.seen.view.rings h))) c.m.view_is at_h in
    subst (λ x. c.show.new.seen.view.rings ≡ map.insert x.rings h (without c.args.m (ring x h))) c.self.view_is at_m
