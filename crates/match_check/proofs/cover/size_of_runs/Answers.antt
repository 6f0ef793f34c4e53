use Rattle.std.proofs.Common.{rules}
use Rattle.match_check.proofs.Halves.{runs_none, runs_more}
use Rattle.match_check.proofs.cover.size_of_runs.Goals as goal

pub loop-label-init : goal.loop-label-init
loop-label-init c = runs_none c.args.sorted.now

pub loop-label-preserved : goal.loop-label-preserved
loop-label-preserved c = runs_more c.args.sorted.now c.loop-label.label-index c.loop-label.size c.loop-label.last c.weight-size.result c.loop-label.odd c.goes_on-was.result
    c.requires.sorted c.loop-label.invariant (search rules) c.goes_on-was.ensures c.weight-size.ensures.value
