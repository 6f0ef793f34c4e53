use Rattle.std.proofs.Common.{rules, subst}
use Rattle.console_run.specs.Strict.{IsRefusal}
use Rattle.console_run.proofs.Stopped.{goes-on, cut-off, is-refusal, stopped}
use Rattle.console_run.proofs.console.Console.end_line.Goals as goal

pub returns-in-Err-clause-err : goal.returns-in-Err-clause-err
returns-in-Err-clause-err g c =
    cut-off _ _ _ _ _ _ _ _ c.run_line-ended.ensures.ran _ c.as_slice.ensures.value _ _
    c.in-Err.ensures.part

pub returns-in-Some-clause-err : goal.returns-in-Some-clause-err
returns-in-Some-clause-err g c =
    stopped _ c.in-Some.status _ _ _ _ _ _ _ c.run_line-ended.ensures.ran (search rules)
    c.run_line-ended.ensures.refused _ c.as_slice.ensures.value _ _ c.in_default.ensures.whole

pub returns-in-Some-clause-cause : goal.returns-in-Some-clause-cause
returns-in-Some-clause-cause g c = λ failed. absurd (subst IsRefusal failed
    (is-refusal c.run_line-ended.result c.in-Some.status (search rules)
    c.run_line-ended.ensures.refused))

pub returns-in-None-clause-ok : goal.returns-in-None-clause-ok
returns-in-None-clause-ok g c =
    goes-on _ _ _ _ _ _ _ _ c.run_line-ended.ensures.ran (search rules) _
    c.as_slice.ensures.value _ _ c.in_default.ensures.whole
