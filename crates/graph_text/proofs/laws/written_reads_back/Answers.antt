use Rattle.graph_text.proofs.Again.{text-again}
use Rattle.graph_text.proofs.laws.written_reads_back.Goals as goal

pub returns : goal.returns
returns c = text-again
