use Rattle.graph_state.specs.Edits.{edge_restored}
use Rattle.graph_core.proofs.graph.Graph.restore_edge.Given as goal

abbrev pub ghost-show : goal.ghost-show
ghost-show a = edge_restored a.x a.seen.now.view
