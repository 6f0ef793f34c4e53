-- The place comes from the spare ones, or from new room.
use Rattle.std.proofs.Common.{◌<◌, sym, subst}
use Rattle.std.specs.FinMap as map
use Rattle.item_ring.specs.declared.rings.TheConstants.{MOST_NODES}
use Rattle.item_ring.proofs.Makes.{IsGrown, grown_holds, member_holds, fits_other, few_more, free_low}
use Rattle.item_ring.proofs.Stock.{grown_free}
use Rattle.item_ring.proofs.Plans.{apart_now}
use Rattle.item_ring.proofs.rings.Rings.add_member.Goals as goal

pub invariant_of-self : goal.invariant_of-self
invariant_of-self c =
    let e = c.use_spare.ensures in
    grown_holds c.self.inside c.self.invariant c.use_spare.new.nodes (record { cells = e.cells; len = e.len; more = e.more; small = e.small })

pub claim-slot-requires-clause-chain : goal.claim-slot-requires-clause-chain
claim-slot-requires-clause-chain c =
    let a = c.self.inside in
    grown_free a.nodes c.use_spare.new.nodes a.first_free a.free a.seen.view.free c.self.invariant.free c.use_spare.ensures.cells c.use_spare.ensures.len

pub invariant_of-self-2 : goal.invariant_of-self-2
invariant_of-self-2 c =
    let a = c.self.inside in
    let st = c.self.invariant.stock in
    let e = c.use_spare.ensures in
    let g = c.use_spare.new.nodes in
    let left = c.in_ok-left.ensures.left in
    let grown : IsGrown a.nodes g = record { cells = e.cells; len = e.len; more = e.more; small = e.small } in
    let fits = fits_other c.in_ok-left.left a.spare_members a.spare_heads c.len.result a.nodes.len g.len a.free a.nodes.room g.room left c.in_ok-left.ensures.room c.len.ensures e.len
    (free_low (map.len a.seen.view.rings) (map.len a.seen.view.tags) a.free a.nodes.len st.total) st.reserved e.more in
    let low = subst (λ x. map.len x.tags < MOST_NODES) (sym c.self.view_is) c.requires in
    let few = few_more (map.len a.seen.view.tags) a.spare_members c.in_ok-left.left left low st.few_members in
    member_holds a c.self.invariant g grown c.claim-slot.new.nodes c.claim-slot.new.first_free c.claim-slot.new.free c.claim-slot.result c.in_ok-left.left c.args.tag c.claim-slot.ensures c.show.new.seen c.show.ensures fits few

pub returns-in_err-left-clause-apart : goal.returns-in_err-left-clause-apart
returns-in_err-left-clause-apart c =
    let e = c.use_spare.ensures in
    apart_now _ (grown_holds c.self.inside c.self.invariant c.use_spare.new.nodes (record { cells = e.cells; len = e.len; more = e.more; small = e.small }))

pub returns-clause-apart : goal.returns-clause-apart
returns-clause-apart c =
    let a = c.self.inside in
    let st = c.self.invariant.stock in
    let e = c.use_spare.ensures in
    let g = c.use_spare.new.nodes in
    let left = c.in_ok-left.ensures.left in
    let grown : IsGrown a.nodes g = record { cells = e.cells; len = e.len; more = e.more; small = e.small } in
    let fits = fits_other c.in_ok-left.left a.spare_members a.spare_heads c.len.result a.nodes.len g.len a.free a.nodes.room g.room left c.in_ok-left.ensures.room c.len.ensures e.len
    (free_low (map.len a.seen.view.rings) (map.len a.seen.view.tags) a.free a.nodes.len st.total) st.reserved e.more in
    let low = subst (λ x. map.len x.tags < MOST_NODES) (sym c.self.view_is) c.requires in
    let few = few_more (map.len a.seen.view.tags) a.spare_members c.in_ok-left.left left low st.few_members in
    apart_now _ (member_holds a c.self.invariant g grown c.claim-slot.new.nodes c.claim-slot.new.first_free c.claim-slot.new.free c.claim-slot.result c.in_ok-left.left c.args.tag c.claim-slot.ensures c.show.new.seen c.show.ensures fits few)
