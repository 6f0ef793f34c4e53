use Rattle.std.proofs.Common.{rules}
use Rattle.console_run.proofs.Performs.{cut-off, stopped}
use Rattle.console_run.proofs.console.Console.show_line.Goals as goal

pub returns-in-Err-clause-err : goal.returns-in-Err-clause-err
returns-in-Err-clause-err g c =
    cut-off _ _ _ _ _ _ _ _ _ c.run_line-ended.ensures.ran _ (search rules) _ _
    c.in-Err.ensures.part

pub returns-in-Some-clause-err : goal.returns-in-Some-clause-err
returns-in-Some-clause-err g c =
    stopped _ _ c.in-Some.status _ _ _ _ _ _ _ c.run_line-ended.ensures.ran (search rules)
    c.run_line-ended.ensures.refused _ (search rules) _ _ c.in_default.ensures.whole
