use Rattle.graph_defs.proofs.Exchange.{cuts_bound_flows}
use Rattle.graph_defs.proofs.laws.cuts_bound_flows.Goals as goal

pub returns : goal.returns
returns c = cuts_bound_flows
