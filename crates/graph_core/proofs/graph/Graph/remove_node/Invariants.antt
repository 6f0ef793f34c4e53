use Rattle.graph_state.specs.Edits.{without_node}
use Rattle.graph_core.proofs.graph.Graph.remove_node.Given as goal

abbrev pub ghost-show : goal.ghost-show
ghost-show a = without_node a.x a.seen.now.view
