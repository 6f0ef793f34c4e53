use Rattle.blossom_search.specs.Forest.{IsStarted}
use Rattle.blossom_search.proofs.forest.start.Given as goal

abbrev pub invariant-loop-node : goal.invariant-loop-node
invariant-loop-node l = IsStarted l.net l.m.edges l.node l.forest
