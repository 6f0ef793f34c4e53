-- The slot is in use, so its place holds the node.
use Rattle.std.proofs.Common.{sym, subst, ◌∙◌, ◌≡◌, Some}
use Rattle.item_ring.specs.AreNodes.{slots_of}
use Rattle.item_ring.specs.Nodes.{LeadsTo, IsTied, node_at}
use Rattle.item_ring.proofs.Writes.{address_is, is_filled, reads, below_room}
use Rattle.item_ring.proofs.nodes.Nodes.read.Goals as goal

pub get-requires-clause-leads : goal.get-requires-clause-leads
get-requires-clause-leads c =
    let v = slots_of c.self.inside in
    let leads = subst (λ x. LeadsTo x c.args.link c.args.slot) (sym c.self.view_is) c.requires in
    leads.there ∙ sym (address_is v c.self.invariant c.args.slot (below_room v c.self.invariant c.args.slot leads.within) c.index.result.now c.index.ensures)

pub get-requires-clause-filled : goal.get-requires-clause-filled
get-requires-clause-filled c =
    let v = slots_of c.self.inside in
    let leads = subst (λ x. LeadsTo x c.args.link c.args.slot) (sym c.self.view_is) c.requires in
    is_filled v c.self.invariant c.args.slot (below_room v c.self.invariant c.args.slot leads.within) c.index.result.now c.index.ensures leads.within

pub returns-clause-node : goal.returns-clause-node
returns-clause-node c =
    let v = slots_of c.self.inside in
    let leads = subst (λ x. LeadsTo x c.args.link c.args.slot) (sym c.self.view_is) c.requires in
    let both = reads v c.self.invariant c.args.slot (below_room v c.self.invariant c.args.slot leads.within) c.index.result.now c.index.ensures c.get.result leads.within c.get.ensures in
    subst (λ x. node_at x.blocks c.args.slot ≡ Some c.get.result) c.self.view_is both.0

pub returns-clause-tied : goal.returns-clause-tied
returns-clause-tied c =
    let v = slots_of c.self.inside in
    let leads = subst (λ x. LeadsTo x c.args.link c.args.slot) (sym c.self.view_is) c.requires in
    let both = reads v c.self.invariant c.args.slot (below_room v c.self.invariant c.args.slot leads.within) c.index.result.now c.index.ensures c.get.result leads.within c.get.ensures in
    subst (λ x. IsTied x c.get.result) c.self.view_is both.1
