use Rattle.console_run.proofs.Outcomes.{on_ok, if_err}
use Rattle.console_run.proofs.Advances.{last-answered, last-cut}
use Rattle.console_run.proofs.console.Console.finish.Goals as goal

pub returns-clause-ok : goal.returns-clause-ok
returns-clause-ok g c = λ held before taken p.
    on_ok c.end_line.result
    (last-answered _ held before taken _ _ _ _ p _ _ _) c.end_line.ensures.ok

pub returns-clause-err : goal.returns-clause-err
returns-clause-err g c = λ held before taken p.
    if_err c.end_line.result (λ status. last-cut _ status held before taken _ _ _ _ p _ _ _)
    c.end_line.ensures.err
