use Rattle.std.proofs.Common.{◌≡◌}
use Rattle.std.specs.List.{filter, range_with_len}
use Rattle.flow_net.specs.Search.{is_visited}
use Rattle.flow_net.proofs.breadth_first.visited_nodes.Given as goal

abbrev pub invariant-loop-node : goal.invariant-loop-node
invariant-loop-node l = l.nodes ≡ filter (is_visited l.visited) (range_with_len 0 l.node)
