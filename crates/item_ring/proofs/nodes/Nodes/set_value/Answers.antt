-- One write, which keeps the links.
use Rattle.std.proofs.Common.{sym, subst}
use Rattle.item_ring.specs.Nodes.{Edits}
use Rattle.item_ring.specs.declared.block.Cell.{Cell}
use Rattle.item_ring.proofs.Edits.{cell_is, writes_edits}
use Rattle.item_ring.proofs.nodes.Nodes.set_value.Goals as goal

pub returns-clause-cell : goal.returns-clause-cell
returns-clause-cell c =
    let v = c.args.self.now in
    let P : Cell → Type 0 = λ x. Edits v c.write.new.self c.args.slot (record x { value = c.args.value }) in
    subst P (sym (cell_is v c.args.slot c.read-node.result c.read-node.ensures.node)) (writes_edits v c.write.new.self c.args.slot _ c.write.ensures)
