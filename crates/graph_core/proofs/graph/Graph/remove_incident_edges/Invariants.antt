use Rattle.std.proofs.Common.{◌≡◌, length}
use Rattle.graph_state.specs.Names.{Has}
use Rattle.graph_state.specs.Edits.{without_node}
use Rattle.graph_core.proofs.graph.Graph.remove_incident_edges.Given as goal

abbrev pub invariant-loop-e : goal.invariant-loop-e
invariant-loop-e l = Has l.v l.self.nodes × (without_node l.v l.self ≡ without_node l.v l.initial.self)

abbrev pub decreases-loop-e : goal.decreases-loop-e
decreases-loop-e l = length l.self.edges
