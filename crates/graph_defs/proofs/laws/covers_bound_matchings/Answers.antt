use Rattle.graph_defs.proofs.Covers.{covers_bound_matchings}
use Rattle.graph_defs.proofs.laws.covers_bound_matchings.Goals as goal

pub returns : goal.returns
returns c = covers_bound_matchings
