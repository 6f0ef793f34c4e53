use Rattle.console_run.proofs.FirstLine.{unended-line, ended-line}
use Rattle.console_run.proofs.console.first_line.Goals as goal

pub returns-in-Some : goal.returns-in-Some
returns-in-Some c = ended-line c.args.text.now c.in-Some.end c.in-Some.ensures.found

pub returns-in-None : goal.returns-in-None
returns-in-None c = unended-line c.args.text.now c.in-None.ensures.none
