-- There are as many slots as are in use and spare.
use Rattle.std.proofs.Common.{◌+◌, ◌≤◌, arith, sym, subst}
use Rattle.std.specs.FinMap as map
use Rattle.item_ring.specs.declared.rings.TheConstants.{MOST_NODES}
use Rattle.item_ring.proofs.Makes.{IsGrown, grown_holds, reserve_holds}
use Rattle.item_ring.proofs.Plans.{apart_now}
use Rattle.item_ring.proofs.rings.Rings.reserve.Goals as goal

pub invariant_of-self : goal.invariant_of-self
invariant_of-self c =
    let e = c.grow_to.ensures in
    grown_holds c.self.inside c.self.invariant c.grow_to.new.nodes (record { cells = e.cells; len = e.len; more = e.more; small = e.small })

pub invariant_of-self-2 : goal.invariant_of-self-2
invariant_of-self-2 c =
    let a = c.self.inside in
    let st = c.self.invariant.stock in
    let e = c.grow_to.ensures in
    let grown : IsGrown a.nodes c.grow_to.new.nodes = record { cells = e.cells; len = e.len; more = e.more; small = e.small } in
    let heads = subst (λ x. map.len x.rings + c.args.heads ≤ MOST_NODES) (sym c.self.view_is) c.requires.heads in
    let members = subst (λ x. map.len x.tags + c.args.members ≤ MOST_NODES) (sym c.self.view_is) c.requires.members in
    let old_heads = st.few_heads in let old_members = st.few_members in
    let max_heads = c.max-spare_heads.ensures in let max_members = c.max-spare_members.ensures in
    let len = c.len.ensures in let room = c.in_ok-grow_to.ensures.room in
    reserve_holds a c.self.invariant c.grow_to.new.nodes grown c.max-spare_heads.result c.max-spare_members.result
    (omega (arith, heads, old_heads, max_heads)) (omega (arith, members, old_members, max_members)) (omega (arith, room, len))

pub returns-in_err-grow_to-clause-apart : goal.returns-in_err-grow_to-clause-apart
returns-in_err-grow_to-clause-apart c =
    let e = c.grow_to.ensures in
    apart_now _ (grown_holds c.self.inside c.self.invariant c.grow_to.new.nodes (record { cells = e.cells; len = e.len; more = e.more; small = e.small }))

pub returns-clause-apart : goal.returns-clause-apart
returns-clause-apart c =
    let a = c.self.inside in
    let st = c.self.invariant.stock in
    let e = c.grow_to.ensures in
    let grown : IsGrown a.nodes c.grow_to.new.nodes = record { cells = e.cells; len = e.len; more = e.more; small = e.small } in
    let heads = subst (λ x. map.len x.rings + c.args.heads ≤ MOST_NODES) (sym c.self.view_is) c.requires.heads in
    let members = subst (λ x. map.len x.tags + c.args.members ≤ MOST_NODES) (sym c.self.view_is) c.requires.members in
    let old_heads = st.few_heads in let old_members = st.few_members in
    let max_heads = c.max-spare_heads.ensures in let max_members = c.max-spare_members.ensures in
    let len = c.len.ensures in let room = c.in_ok-grow_to.ensures.room in
    apart_now _ (reserve_holds a c.self.invariant c.grow_to.new.nodes grown c.max-spare_heads.result c.max-spare_members.result
    (omega (arith, heads, old_heads, max_heads)) (omega (arith, members, old_members, max_members)) (omega (arith, room, len)))
