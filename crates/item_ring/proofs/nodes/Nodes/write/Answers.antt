-- One row changes at one place.
use Rattle.std.proofs.Common.{sym, subst, set, ◌∙◌, ◌/◌}
use Rattle.item_ring.specs.declared.block.TheConstants.{BLOCK}
use Rattle.item_ring.specs.AreNodes.{slots_of}
use Rattle.item_ring.specs.Nodes.{LeadsTo, IsTied, Writes}
use Rattle.item_ring.proofs.Writes.{address_is, row_long, write_writes, write_keeps, below_room}
use Rattle.item_ring.proofs.nodes.Nodes.write.Goals as goal

pub set-requires-clause-leads : goal.set-requires-clause-leads
set-requires-clause-leads c =
    let v = slots_of c.self.inside in
    let leads = subst (λ x. LeadsTo x c.args.link c.args.slot) (sym c.self.view_is) c.requires.leads in
    leads.there ∙ sym (address_is v c.self.invariant c.args.slot (below_room v c.self.invariant c.args.slot leads.within) c.index_mut.result.now c.index_mut.ensures.value)

pub set-requires-clause-within : goal.set-requires-clause-within
set-requires-clause-within c =
    let v = slots_of c.self.inside in
    let leads = subst (λ x. LeadsTo x c.args.link c.args.slot) (sym c.self.view_is) c.requires.leads in
    row_long v c.self.invariant c.args.slot (below_room v c.self.invariant c.args.slot leads.within) c.index_mut.result.now c.index_mut.ensures.value

pub invariant_of-self : goal.invariant_of-self
invariant_of-self c =
    let v = slots_of c.self.inside in
    let leads = subst (λ x. LeadsTo x c.args.link c.args.slot) (sym c.self.view_is) c.requires.leads in
    let tied = subst (λ x. IsTied x c.args.node) (sym c.self.view_is) c.requires.tied in
    write_keeps v c.self.invariant c.args.slot leads.within c.index_mut.result.now c.set.new.self c.args.node c.index_mut.ensures.value c.set.ensures.at c.set.ensures.slots tied

pub returns : goal.returns
returns c =
    let v = slots_of c.self.inside in
    let leads = subst (λ x. LeadsTo x c.args.link c.args.slot) (sym c.self.view_is) c.requires.leads in
    let writes = write_writes v c.self.invariant c.args.slot leads.within c.index_mut.result.now c.set.new.self c.args.node c.index_mut.ensures.value c.set.ensures.at c.set.ensures.slots in
    subst (λ x. Writes x (record v { blocks = set v.blocks (c.args.slot / BLOCK) c.set.new.self }) c.args.slot c.args.node) c.self.view_is writes
