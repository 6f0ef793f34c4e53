use Rattle.std.proofs.Common.{inr}
use Rattle.console_run.proofs.Performs.{work-done, work-untold}
use Rattle.console_run.proofs.top.perform.Goals as goal

pub returns-in-Ok-write_summary-clause-ends : goal.returns-in-Ok-write_summary-clause-ends
returns-in-Ok-write_summary-clause-ends g c = λ left.
    work-done _ _ _ _ _ _ _ _ _ c.in-Ok.ensures.whole c.in-Ok-write_summary.ensures.whole

pub returns-in-Err-write_summary-clause-ends : goal.returns-in-Err-write_summary-clause-ends
returns-in-Err-write_summary-clause-ends g c = λ left. inr
    (work-untold _ _ _ _ _ _ _ _ _ c.in-Ok.ensures.whole c.in-Err-write_summary.ensures.part)
