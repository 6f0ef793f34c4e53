use Rattle.console_state.specs.Obstacles.{refusal_of}
use Rattle.console_state.proofs.Cleared.{first_of-six}
use Rattle.console_state.proofs.session.Session.search_obstacle.Goals as goal

pub returns-clause-first : goal.returns-clause-first
returns-clause-first c =
    let six = first_of-six refusal_of c.leftmost-absent.result c.leftmost-gone.result
    c.leftmost-stray.result
    c.leftmost-hidden.result c.wrong_kind-kind.result c.leftmost-taken.result in
    cc
