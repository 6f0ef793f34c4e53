use Rattle.graph_defs.proofs.Exchange.{reduced_is_cheapest}
use Rattle.graph_defs.proofs.laws.reduced_is_cheapest.Goals as goal

pub returns : goal.returns
returns c = reduced_is_cheapest
