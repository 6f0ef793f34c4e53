use Rattle.std.proofs.Common.{subst}
use Rattle.console_run.specs.Strict.{IsStop}
use Rattle.console_run.proofs.Outcomes.{rose-later}
use Rattle.console_run.proofs.Pumps.{last-cut-ends, ended-at-reply, stop-begun}
use Rattle.console_run.proofs.top.pump.Goals as goal

pub returns-in-Err-finish-clause-ends : goal.returns-in-Err-finish-clause-ends
returns-in-Err-finish-clause-ends g c =
    let whole = c.in_default.ensures.whole in
    let broken = c.in-Err-finish.ensures.err _ _ whole.pumped.taken whole.pumped.progress in
    ended-at-reply _ _ _ _ broken.is_stop (last-cut-ends _ _ _ _ _ _ _ _ _ _ whole _ _ broken)

pub returns-in-Err-finish-clause-words : goal.returns-in-Err-finish-clause-words
returns-in-Err-finish-clause-words g c =
    let whole = c.in_default.ensures.whole in
    let broken = c.in-Err-finish.ensures.err _ _ whole.pumped.taken whole.pumped.progress in
    λ e. subst IsStop e broken.is_stop

pub returns-in-Err-finish-clause-begun : goal.returns-in-Err-finish-clause-begun
returns-in-Err-finish-clause-begun g c =
    let whole = c.in_default.ensures.whole in
    let broken = c.in-Err-finish.ensures.err _ _ whole.pumped.taken whole.pumped.progress in
    stop-begun _ broken.is_stop

pub returns-in-Err-finish-clause-read : goal.returns-in-Err-finish-clause-read
returns-in-Err-finish-clause-read g c =
    let whole = c.in_default.ensures.whole in
    let broken = c.in-Err-finish.ensures.err _ _ whole.pumped.taken whole.pumped.progress in
    λ e. absurd (subst IsStop e broken.is_stop)

pub returns-in-Err-finish-clause-write : goal.returns-in-Err-finish-clause-write
returns-in-Err-finish-clause-write g c =
    λ failed. rose-later _ _ _ c.read_script.ensures.writes (c.in-Err-finish.ensures.cause failed)
