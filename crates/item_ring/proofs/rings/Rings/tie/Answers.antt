-- The member goes right behind a slot of the ring.
use Rattle.std.proofs.Common.{◌+◌, ◌<◌, ◌^◌, sym, subst, ap}
use Rattle.item_ring.specs.declared.block.Cell.{Cell}
use Rattle.item_ring.proofs.Plans.{plan_tie, plan_ready, plan_holds, apart_now}
use Rattle.item_ring.proofs.rings.Rings.tie.Goals as goal

pub splice-requires-clause-here : goal.splice-requires-clause-here
splice-requires-clause-here c =
    let q = c.requires in
    let plan = plan_tie c.self.inside c.self.invariant _ c.self.view_is c.h.inside.slot c.m.inside.slot c.slot_behind-here.result _ _ c.args.behind c.h.view_is c.m.view_is c.slot_behind-here.ensures q.head q.member q.behind in
    (plan_ready c.self.invariant plan).here_used

pub splice-requires-clause-member : goal.splice-requires-clause-member
splice-requires-clause-member c =
    let q = c.requires in
    let plan = plan_tie c.self.inside c.self.invariant _ c.self.view_is c.h.inside.slot c.m.inside.slot c.slot_behind-here.result _ _ c.args.behind c.h.view_is c.m.view_is c.slot_behind-here.ensures q.head q.member q.behind in
    (plan_ready c.self.invariant plan).new_used

pub splice-requires-clause-apart : goal.splice-requires-clause-apart
splice-requires-clause-apart c =
    let q = c.requires in
    let plan = plan_tie c.self.inside c.self.invariant _ c.self.view_is c.h.inside.slot c.m.inside.slot c.slot_behind-here.result _ _ c.args.behind c.h.view_is c.m.view_is c.slot_behind-here.ensures q.head q.member q.behind in
    (plan_ready c.self.invariant plan).apart

pub splice-requires-clause-ahead : goal.splice-requires-clause-ahead
splice-requires-clause-ahead c =
    let q = c.requires in
    let plan = plan_tie c.self.inside c.self.invariant _ c.self.view_is c.h.inside.slot c.m.inside.slot c.slot_behind-here.result _ _ c.args.behind c.h.view_is c.m.view_is c.slot_behind-here.ensures q.head q.member q.behind in
    (plan_ready c.self.invariant plan).ahead

pub overflow_add-count : goal.overflow_add-count
overflow_add-count c =
    let q = c.requires in
    let plan = plan_tie c.self.inside c.self.invariant _ c.self.view_is c.h.inside.slot c.m.inside.slot c.slot_behind-here.result _ _ c.args.behind c.h.view_is c.m.view_is c.slot_behind-here.ensures q.head q.member q.behind in
    record { fits = subst (λ n. n + 1 < 2 ^ 32) (sym (ap (λ (x : Cell). x.value) c.get-count.ensures)) (plan_ready c.self.invariant plan).fits }

pub invariant_of-self : goal.invariant_of-self
invariant_of-self c =
    let q = c.requires in
    let plan = plan_tie c.self.inside c.self.invariant _ c.self.view_is c.h.inside.slot c.m.inside.slot c.slot_behind-here.result _ _ c.args.behind c.h.view_is c.m.view_is c.slot_behind-here.ensures q.head q.member q.behind in
    plan_holds c.self.invariant plan c.splice.new.self c.set_value.new.self _ c.splice.ensures c.set_value.ensures.len c.set_value.ensures.cell (ap (λ (x : Cell). x.value + 1) c.get-count.ensures) c.show.new.seen c.show.ensures

pub returns-clause-apart : goal.returns-clause-apart
returns-clause-apart c =
    let q = c.requires in
    let plan = plan_tie c.self.inside c.self.invariant _ c.self.view_is c.h.inside.slot c.m.inside.slot c.slot_behind-here.result _ _ c.args.behind c.h.view_is c.m.view_is c.slot_behind-here.ensures q.head q.member q.behind in
    apart_now _ (plan_holds c.self.invariant plan c.splice.new.self c.set_value.new.self _ c.splice.ensures c.set_value.ensures.len c.set_value.ensures.cell (ap (λ (x : Cell). x.value + 1) c.get-count.ensures) c.show.new.seen c.show.ensures)
