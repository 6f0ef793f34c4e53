use Rattle.std.proofs.Common.{sym}
use Rattle.kept_answers.proofs.Listed.{has_listed, unlisted}
use Rattle.kept_answers.proofs.lookup.is_among.Goals as goal

pub returns-in-Some : goal.returns-in-Some
returns-in-Some c = sym (has_listed c.args.number c.args.among.now c.in-Some.ensures.0)

pub returns-in-None : goal.returns-in-None
returns-in-None c = sym (unlisted c.args.number c.args.among.now c.in-None.ensures)
