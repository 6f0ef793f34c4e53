-- The law is a lemma on states.
use Rattle.hide_restore.proofs.Again.{reads_again}
use Rattle.hide_restore.proofs.laws.what_is_read_is_written_again.Goals as goal

pub returns : goal.returns
returns c = reads_again
