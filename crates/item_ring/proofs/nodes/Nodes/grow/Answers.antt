-- A block more lies behind the others, which stay where they are.
use Rattle.std.proofs.Common.{refl, sym, subst, ap, ◌∙◌, List, ◌+◌}
use Rattle.item_ring.specs.declared.block.TheConstants.{BLOCK}
use Rattle.item_ring.specs.AreNodes.{slots_of}
use Rattle.item_ring.specs.NodeBlock.{NodeBlock}
use Rattle.item_ring.specs.Nodes.{Slots, AreNodes, cell_at, node_at, cell_of}
use Rattle.item_ring.proofs.Writes.{grow_keeps, grow_same}
use Rattle.item_ring.proofs.nodes.Nodes.grow.Goals as goal

pub invariant_of-self-2 : goal.invariant_of-self-2
invariant_of-self-2 c =
    let v = slots_of c.self.inside in
    let P : List NodeBlock → Type 0 = λ blocks. AreNodes (record { blocks = blocks; len = v.len; room = v.room + BLOCK }) in
    subst P (sym c.in_ok-push.ensures.items) (grow_keeps v c.self.invariant c.in_ok-block.block BLOCK refl c.in_ok-block.ensures)

pub returns-clause-cells : goal.returns-clause-cells
unfolding cell_at
returns-clause-cells c = λ k.
    let v = slots_of c.self.inside in
    ap (λ blocks. cell_of (node_at blocks k)) c.in_ok-push.ensures.items
    ∙ ap cell_of (grow_same v c.self.invariant c.in_ok-block.block BLOCK refl c.in_ok-block.ensures k)
    ∙ ap (λ (x : Slots). cell_of (node_at x.blocks k)) c.self.view_is
