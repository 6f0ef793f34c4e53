-- The law is a lemma on states.
use Rattle.hide_restore.proofs.NodeLaw.{gives_back}
use Rattle.hide_restore.proofs.laws.restoring_nodes_gives_back.Goals as goal

pub returns : goal.returns
returns c = gives_back
