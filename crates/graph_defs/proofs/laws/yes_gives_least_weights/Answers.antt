use Rattle.std.proofs.Common.{refl}
use Rattle.graph_defs.proofs.LeastWeights.{gives_least_weights}
use Rattle.graph_defs.proofs.laws.yes_gives_least_weights.Goals as goal

pub returns : goal.returns
returns c = λ net s cost a valid l h. gives_least_weights net s cost a valid (record {
  range = h.0 0;
  once = h.1.0;
  source = h.1.1.0 s refl;
  tight = h.1.1.1.0;
  seeds = h.1.1.1.1.0;
  low = h.1.1.1.1.1.0;
  shorter = h.1.1.1.1.1.1.0;
  leaves = h.1.1.1.1.1.1.1.0;
})
