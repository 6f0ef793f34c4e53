use Rattle.std.proofs.Common.{length}
use Rattle.console_state.proofs.session.Session.+are_clear.Given as goal

abbrev pub decreases-are_clear : goal.decreases-are_clear
decreases-are_clear l = length l.forms.now
