use Rattle.std.proofs.Common.{◌<◌}
use Rattle.blossom_search.specs.Forest.{HasSpread}
use Rattle.blossom_search.proofs.forest.spread.Given as goal

abbrev pub invariant-loop-arc : goal.invariant-loop-arc
invariant-loop-arc l = HasSpread l.net l.m.edges l.stem (λ along. along < l.arc) l.fn.forest l.forest
