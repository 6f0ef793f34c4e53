-- The slot after the last gets a node that is tied to itself.
use Rattle.std.proofs.Common.{refl, sym, subst, set, ◌<◌, ◌∙◌, ◌/◌, ◌+◌}
use Rattle.item_ring.specs.declared.block.TheConstants.{BLOCK}
use Rattle.item_ring.specs.AreNodes.{slots_of}
use Rattle.item_ring.specs.Nodes.{Slots, Edits}
use Rattle.item_ring.proofs.Writes.{push_keeps, push_edits, address_is}
use Rattle.item_ring.proofs.nodes.Nodes.push.Goals as goal

pub invariant_of-self : goal.invariant_of-self
invariant_of-self c =
    let v = slots_of c.self.inside in
    let lt = subst (λ x. x.len < x.room) (sym c.self.view_is) c.requires.room in
    let leads = c.link-link.ensures ∙ address_is v c.self.invariant v.len lt c.index.result.now c.index.ensures in
    push_keeps v c.self.invariant lt c.index_mut.result.now c.set.new.self c.link-link.result _ c.index_mut.ensures.value leads refl refl c.set.ensures.at c.set.ensures.slots

pub returns-clause-cell : goal.returns-clause-cell
returns-clause-cell c =
    let v = slots_of c.self.inside in
    let lt = subst (λ x. x.len < x.room) (sym c.self.view_is) c.requires.room in
    let leads = c.link-link.ensures ∙ address_is v c.self.invariant v.len lt c.index.result.now c.index.ensures in
    let w : Slots = record { blocks = set v.blocks (v.len / BLOCK) c.set.new.self; len = v.len + 1; room = v.room } in
    let P : Slots → Type 0 = λ x. Edits x w x.len (record { next = x.len; prev = x.len; ring = x.len; value = c.args.value; state = c.args.state }) in
    subst P c.self.view_is
    (push_edits v c.self.invariant lt c.index_mut.result.now c.set.new.self c.link-link.result _ c.index_mut.ensures.value leads refl refl c.set.ensures.at c.set.ensures.slots)
