-- The node that its link leads to has the cell.
use Rattle.std.proofs.Common.{sym}
use Rattle.item_ring.proofs.Edits.{cell_is}
use Rattle.item_ring.proofs.nodes.Nodes.get.Goals as goal

pub returns : goal.returns
returns c = sym (cell_is c.args.self.now c.args.slot c.read.result c.read.ensures.node)
