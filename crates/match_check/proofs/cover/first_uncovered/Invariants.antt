use Rattle.std.proofs.Common.{◌≡◌, ℕ, ◌<◌, true}
use Rattle.graph_defs.specs.Matching.{covers}
use Rattle.graph_defs.specs.Net.{source, target}
use Rattle.match_check.proofs.cover.first_uncovered.Given as goal

abbrev pub invariant-loop-arc : goal.invariant-loop-arc
invariant-loop-arc l = (arc : ℕ) → arc < l.arc → covers l.labels (source l.net arc, target l.net arc) ≡ true
