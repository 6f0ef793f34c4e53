use Rattle.graph_state.specs.Edits.{without_edge}
use Rattle.graph_core.proofs.graph.Graph.remove_edge.Given as goal

abbrev pub ghost-show : goal.ghost-show
ghost-show a = without_edge a.x a.seen.now.view
