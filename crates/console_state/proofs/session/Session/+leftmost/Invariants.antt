use Rattle.std.proofs.Common.{length}
use Rattle.console_state.proofs.session.Session.+leftmost.Given as goal

abbrev pub decreases-leftmost : goal.decreases-leftmost
decreases-leftmost l = length l.forms.now
