use Rattle.blossom_search.specs.Forest.{IsStarted, work}
use Rattle.blossom_search.proofs.forest.grow.Given as goal

abbrev pub invariant-loop-stem : goal.invariant-loop-stem
invariant-loop-stem l = IsStarted l.net l.m.edges l.net.n l.forest

abbrev pub decreases-loop-stem : goal.decreases-loop-stem
decreases-loop-stem l = work l.forest
