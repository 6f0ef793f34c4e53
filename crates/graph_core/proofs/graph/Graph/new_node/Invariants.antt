use Rattle.graph_state.specs.Edits.{with_node}
use Rattle.graph_core.proofs.graph.Graph.new_node.Given as goal

abbrev pub ghost-show_label : goal.ghost-show_label
ghost-show_label a = with_node a.label.now a.seen.now.view
