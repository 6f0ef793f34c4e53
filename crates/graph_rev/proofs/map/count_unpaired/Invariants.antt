use Rattle.std.proofs.Common.{◌≡◌, filter, length}
use Rattle.graph_rev.specs.Pairing.{lacks_reversal}
use Rattle.graph_rev.proofs.Walks.{Goes}
use Rattle.graph_rev.proofs.map.count_unpaired.Given as goal

abbrev pub invariant-loop-turn : goal.invariant-loop-turn
invariant-loop-turn l = (g : Goes l.g.edges l._turn l.at) × (l.count ≡ length (filter (lacks_reversal l.g) g.passed))
