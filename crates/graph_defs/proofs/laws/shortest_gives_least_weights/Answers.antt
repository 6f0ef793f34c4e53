use Rattle.graph_defs.proofs.LeastWeights.{gives_least_weights}
use Rattle.graph_defs.proofs.laws.shortest_gives_least_weights.Goals as goal

pub returns : goal.returns
returns c = λ net s cost a valid l h. gives_least_weights net s cost a valid h
