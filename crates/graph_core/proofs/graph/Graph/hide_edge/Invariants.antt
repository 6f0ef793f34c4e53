use Rattle.graph_state.specs.Edits.{edge_hidden}
use Rattle.graph_core.proofs.graph.Graph.hide_edge.Given as goal

abbrev pub ghost-show : goal.ghost-show
ghost-show a = edge_hidden a.x a.seen.now.view
