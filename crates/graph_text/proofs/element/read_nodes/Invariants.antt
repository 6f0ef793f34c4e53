use Rattle.std.proofs.Common.{◌≡◌, ◌-◌}
use Rattle.graph_text.specs.Reading.{node_in, many_of}
use Rattle.graph_text.proofs.Loops.{with_front}
use Rattle.graph_text.proofs.element.read_nodes.Given as goal

abbrev pub invariant-loop : goal.invariant-loop
invariant-loop l =
    with_front l.nodes (many_of (node_in l.void) (l.count - l.counter) l.lines)
    ≡ many_of (node_in l.void) l.count l.initial.lines
