use Rattle.std.proofs.Common.{◌≡◌, ◌-◌, length}
use Rattle.graph_text.specs.Gives.{placed, sizes_seen}
use Rattle.graph_text.specs.Reading.{edge_in, many_of}
use Rattle.graph_text.proofs.Loops.{with_front}
use Rattle.graph_text.proofs.element.read_edge_lines.Given as goal

abbrev pub invariant-loop : goal.invariant-loop
invariant-loop l = record {
  read : with_front (placed l.edges l.numbers)
      (many_of (edge_in (sizes_seen l.sizes)) (l.sizes.edges - l.counter) l.lines)
      ≡ many_of (edge_in (sizes_seen l.sizes)) l.sizes.edges l.initial.lines;
  lengths : length l.edges ≡ length l.numbers;
}
