use Rattle.graph_state.specs.Edits.{node_restored}
use Rattle.graph_core.proofs.graph.Graph.restore_node.Given as goal

abbrev pub ghost-show : goal.ghost-show
ghost-show a = node_restored a.x a.seen.now.view
