use Rattle.graph_defs.proofs.Exchange.{set_excludes_flows}
use Rattle.graph_defs.proofs.laws.set_excludes_flows.Goals as goal

pub returns : goal.returns
returns c = set_excludes_flows
