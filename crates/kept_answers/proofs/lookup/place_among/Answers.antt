use Rattle.kept_answers.proofs.Listed.{place_past}
use Rattle.kept_answers.proofs.lookup.place_among.Goals as goal

pub returns-in-None : goal.returns-in-None
returns-in-None c = let past = place_past c.args.number c.args.among.now c.in-None.ensures in cc
