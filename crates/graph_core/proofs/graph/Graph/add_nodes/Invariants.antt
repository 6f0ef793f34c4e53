use Rattle.std.proofs.Common.{◌≡◌, ◌++◌}
use Rattle.graph_state.specs.Built.{with_nodes}
use Rattle.graph_core.proofs.graph.Graph.add_nodes.Given as goal

abbrev pub invariant-loop-label : goal.invariant-loop-label
invariant-loop-label l =
    (l.fn.labels ≡ l.yielded ++ l.label-iterator.rest.items)
    × (l.self ≡ with_nodes l.yielded l.fn.self)
