use Rattle.std.proofs.Common.{◌≡◌, length}
use Rattle.graph_text.specs.Lines.{next_of}
use Rattle.graph_text.proofs.line.Lines.next_line.Given as goal

abbrev pub invariant-loop-line : goal.invariant-loop-line
invariant-loop-line l = next_of l.self ≡ next_of l.initial.self

abbrev pub decreases-loop-line : goal.decreases-loop-line
decreases-loop-line l = length l.self.lines
