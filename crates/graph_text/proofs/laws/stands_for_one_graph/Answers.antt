use Rattle.graph_text.proofs.Meanings.{one_graph}
use Rattle.graph_text.proofs.laws.stands_for_one_graph.Goals as goal

pub returns : goal.returns
returns c = one_graph
