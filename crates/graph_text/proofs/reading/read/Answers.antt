use Rattle.graph_text.proofs.Meanings.{answers}
use Rattle.graph_text.proofs.reading.read.Goals as goal

pub returns-clause-right : goal.returns-clause-right
returns-clause-right c = answers c.args.text.now c.read_lines.result c.read_lines.ensures
