use Rattle.std.proofs.Common.{rules}
use Rattle.console_run.proofs.Outcomes.{passed-on}
use Rattle.console_run.proofs.Performs.{work-refused, work-answered, work-cut}
use Rattle.console_run.proofs.top.work.Goals as goal
use Rattle.console_run.proofs.top.work.Goals.{then-branch, else-branch}

pub returns-in_err-work_line-clause-cut : goal.returns-in_err-work_line-clause-cut
returns-in_err-work_line-clause-cut g c =
    passed-on _ c.from_residual.result c.in_err-work_line.field-0.0 c.from_residual.ensures.1
    (work-cut _ _ _ _ _ _ _ _ _ c.loop-at.invariant.0 _ _ _ _ (search rules)
    (c.in_err-work_line.ensures.err c.args.seed c.loop-at.invariant.1))

pub loop-at-preserved : goal.loop-at-preserved
loop-at-preserved g c = (
  elim c.if-branch.branch [
    | then-branch w ↦ work-refused _ _ _ _ _ _ _ _ _ c.loop-at.invariant.0 _ _ _ _ (search rules)
        (c.in_ok-work_line.ensures.ok c.args.seed c.loop-at.invariant.1) (search rules) _
        (search rules)
    | else-branch w ↦ work-answered _ _ _ _ _ _ _ _ _ c.loop-at.invariant.0 _ _ _ _ (search rules)
        (c.in_ok-work_line.ensures.ok c.args.seed c.loop-at.invariant.1) (search rules) _
        (search rules)
  ],
  search rules,
  search rules,
  search rules,
  search rules,
  search rules,
)
