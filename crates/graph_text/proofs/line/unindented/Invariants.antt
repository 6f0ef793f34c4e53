use Rattle.std.proofs.Common.{◌≡◌, ◌≤◌, length}
use Rattle.graph_text.specs.Lines.{unindented}
use Rattle.graph_text.proofs.line.unindented.Given as goal

abbrev pub invariant-loop-rest : goal.invariant-loop-rest
invariant-loop-rest l = (unindented l.rest ≡ unindented l.bytes) × (length l.rest ≤ length l.bytes)

abbrev pub decreases-loop-rest : goal.decreases-loop-rest
decreases-loop-rest l = length l.rest
