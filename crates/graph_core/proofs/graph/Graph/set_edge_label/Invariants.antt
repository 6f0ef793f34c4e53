use Rattle.graph_state.specs.Edits.{with_edge_label}
use Rattle.graph_core.proofs.graph.Graph.set_edge_label.Given as goal

abbrev pub ghost-show_label : goal.ghost-show_label
ghost-show_label a = with_edge_label a.x a.label.now a.seen.now.view
