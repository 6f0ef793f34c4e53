use Rattle.std.proofs.Common.{◌≡◌, take}
use Rattle.graph_defs.specs.Matching.{greatest}
use Rattle.match_check.proofs.cover.greatest_of.Given as goal

abbrev pub invariant-loop-label : goal.invariant-loop-label
invariant-loop-label l = l.top ≡ greatest (take l.label-index l.labels)
