use Rattle.graph_state.specs.Edits.{node_hidden}
use Rattle.graph_core.proofs.graph.Graph.hide_node.Given as goal

abbrev pub ghost-show : goal.ghost-show
ghost-show a = node_hidden a.x a.seen.now.view
