-- The new member is linked at its end of the ring.
use Rattle.std.proofs.Common.{◌+◌, subst}
use Rattle.item_list.specs.Items.{Items, Enters}
use Rattle.item_list.specs.Kept.{items_of}
use Rattle.item_list.specs.Sides.{with_at}
use Rattle.item_list.proofs.Enters.{enters_at, kept_out}
use Rattle.item_list.proofs.chain.Chain.put.Goals as goal

pub invariant_of-self-2 : goal.invariant_of-self-2
invariant_of-self-2 g c =
    let a = c.self.inside in
    (enters_at a.rings c.enter.new.rings c.link_at.new.rings a.head c.enter.new.head a.nodes c.enter.new.nodes c.in_ok-ring.ring c.in_ok-ring.member c.in_ok-ring.item c.args.v c.self.invariant c.in_ok-ring.ensures.ok c.link_at.ensures.tags c.link_at.ensures.apart c.args.side c.link_at.ensures.rings).0

pub invariant_of-self : goal.invariant_of-self
invariant_of-self g c =
    let a = c.self.inside in
    kept_out a.rings c.enter.new.rings a.head c.enter.new.head a.nodes c.enter.new.nodes c.args.v c.in_err-ring.field-0.0 c.self.invariant c.in_err-ring.ensures.err

pub returns-clause-ok : goal.returns-clause-ok
returns-clause-ok g c =
    let a = c.self.inside in
    subst (λ (l : Items g.row.E.Denot). Enters l (items_of c.link_at.new.rings c.enter.new.head c.enter.new.nodes) c.in_ok-ring.item (with_at c.args.side (l.made + 1, c.args.v) l.pairs)) c.self.view_is
    (enters_at a.rings c.enter.new.rings c.link_at.new.rings a.head c.enter.new.head a.nodes c.enter.new.nodes c.in_ok-ring.ring c.in_ok-ring.member c.in_ok-ring.item c.args.v c.self.invariant c.in_ok-ring.ensures.ok c.link_at.ensures.tags c.link_at.ensures.apart c.args.side c.link_at.ensures.rings).1
