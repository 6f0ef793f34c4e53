use Rattle.std.proofs.Common.{◌≡◌}
use Rattle.graph_text.proofs.Pairs.{from_place}
use Rattle.graph_text.proofs.pair.first_unpaired.Given as goal

abbrev pub invariant-loop-i : goal.invariant-loop-i
invariant-loop-i l = from_place l.edges l.lines l.i ≡ from_place l.edges l.lines 0
