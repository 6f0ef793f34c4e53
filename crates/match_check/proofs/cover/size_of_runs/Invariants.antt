use Rattle.match_check.specs.Passes.{AreRuns}
use Rattle.match_check.proofs.cover.size_of_runs.Given as goal

abbrev pub invariant-loop-label : goal.invariant-loop-label
invariant-loop-label l = AreRuns l.sorted l.label-index l.size l.last l.odd
