use Rattle.blossom_lift.specs.Passes.{marked}
use Rattle.blossom_search.specs.Closed.{AreLabels}
use Rattle.blossom_search.proofs.forest.labels_of.Given as goal

abbrev pub invariant-loop-node : goal.invariant-loop-node
invariant-loop-node l = AreLabels l.node (marked l.evens) (marked l.odds) l.labels
