-- One write, with links to slots that are in use.
use Rattle.item_ring.proofs.Edits.{writes_edits}
use Rattle.item_ring.proofs.nodes.Nodes.reset.Goals as goal

pub returns-clause-cell : goal.returns-clause-cell
returns-clause-cell c = writes_edits c.args.self.now c.write.new.self c.args.slot _ c.write.ensures
