use Rattle.graph_text.proofs.Meanings.{graph_or_fault}
use Rattle.graph_text.proofs.laws.has_graph_or_fault.Goals as goal

pub returns : goal.returns
returns c = graph_or_fault
