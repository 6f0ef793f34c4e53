use Rattle.graph_defs.proofs.Exchange.{reduced_is_cheapest_of_its_value}
use Rattle.graph_defs.proofs.laws.reduced_is_cheapest_of_its_value.Goals as goal

pub returns : goal.returns
returns c = reduced_is_cheapest_of_its_value
