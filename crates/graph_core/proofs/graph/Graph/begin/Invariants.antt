use Rattle.graph_state.specs.State.{new_graph}
use Rattle.graph_core.proofs.graph.Graph.begin.Given as goal

abbrev pub ghost-begin : goal.ghost-begin
ghost-begin a = new_graph a.directed a.node_type.now a.edge_type.now a.made_nodes a.made_edges
