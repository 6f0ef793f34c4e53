use Rattle.std.proofs.Common.{◌≡◌, ◌++◌, map, take}
use Rattle.graph_text.specs.Written.{edge_text, ended_lines}
use Rattle.graph_text.proofs.writing.append_edges.Given as goal

abbrev pub invariant-loop-edge : goal.invariant-loop-edge
invariant-loop-edge l =
    l.to.items ≡ l.initial.to.items ++ ended_lines (map edge_text (take l.edge-index l.edges))
