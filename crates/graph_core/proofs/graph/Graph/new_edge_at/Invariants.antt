use Rattle.graph_state.specs.Beside.{with_edge_beside}
use Rattle.graph_core.proofs.graph.Graph.new_edge_at.Given as goal

abbrev pub ghost-show_beside : goal.ghost-show_beside
ghost-show_beside a = with_edge_beside a.spot.side a.spot.edge a.w a.label.now a.seen.now.view
