-- The member at the end has the serial at the end for its tag.
use Rattle.std.proofs.Common.{◌≡◌, Some, None, subst}
use Rattle.item_list.specs.Items.{Items, serials}
use Rattle.item_list.specs.Sides.{end_of}
use Rattle.item_list.proofs.Neighbours.{end_named, end_is, end_is_none}
use Rattle.item_list.proofs.chain.Chain.end_item.Goals as goal

pub item_at-requires : goal.item_at-requires
item_at-requires g c =
    let a = c.self.inside in
    end_named c.args.side a.rings a.head a.nodes c.self.invariant c.in_ok-ring.ring c.in_ok-member.member c.in_ok-ring.was c.in_ok-member.ensures

pub returns : goal.returns
returns g c =
    let a = c.self.inside in
    subst (λ (l : Items g.row.E.Denot). Some c.item_at.result.serial ≡ end_of c.args.side (serials l.pairs)) c.self.view_is
    (end_is c.args.side a.rings a.head a.nodes c.self.invariant c.in_ok-ring.ring c.in_ok-member.member c.item_at.result.serial c.in_ok-ring.was c.in_ok-member.ensures c.item_at.ensures)

pub returns-in_err-member : goal.returns-in_err-member
returns-in_err-member g c =
    let a = c.self.inside in
    rw c.from_residual-in_err-member.ensures
    (subst (λ (l : Items g.row.E.Denot). None ≡ end_of c.args.side (serials l.pairs)) c.self.view_is
    (end_is_none c.args.side a.rings a.head a.nodes c.self.invariant c.in_ok-ring.ring c.in_ok-ring.was c.in_err-member.ensures))
