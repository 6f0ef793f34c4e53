use Rattle.graph_state.specs.Edits.{with_edge}
use Rattle.graph_core.proofs.graph.Graph.new_edge.Given as goal

abbrev pub ghost-show_label : goal.ghost-show_label
ghost-show_label a = with_edge a.x a.v a.label.now a.seen.now.view
