use Rattle.std.proofs.Common.{◌≡◌, ◌++◌}
use Rattle.graph_state.specs.Built.{with_plain_edges}
use Rattle.graph_core.proofs.graph.Graph.add_edges.Given as goal

abbrev pub invariant-loop-edge : goal.invariant-loop-edge
invariant-loop-edge l =
    (l.fn.edges ≡ l.yielded ++ l.edge-iterator.rest.items)
    × (l.self ≡ with_plain_edges l.fn.nodes l.fn.self.made_edges l.yielded l.fn.self)
