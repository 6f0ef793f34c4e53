-- The link is the address of the place, which is that of the slot.
use Rattle.std.proofs.Common.{sym, subst, ◌∙◌, ◌<◌}
use Rattle.item_ring.specs.AreNodes.{slots_of}
use Rattle.item_ring.specs.Nodes.{LeadsTo}
use Rattle.item_ring.proofs.Writes.{address_is, below_room}
use Rattle.item_ring.proofs.nodes.Nodes.link.Goals as goal

pub returns : goal.returns
returns c =
    let v = slots_of c.self.inside in
    subst (λ x. LeadsTo x c.link.result c.args.slot) c.self.view_is (let used = subst (λ x. c.args.slot < x.len) (sym c.self.view_is) c.requires in
    record { there = c.link.ensures ∙ address_is v c.self.invariant c.args.slot (below_room v c.self.invariant c.args.slot used) c.index.result.now c.index.ensures; within = used })
