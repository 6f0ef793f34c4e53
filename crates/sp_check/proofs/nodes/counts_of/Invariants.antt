use Rattle.sp_check.specs.Passes.{AreCounts}
use Rattle.sp_check.proofs.nodes.counts_of.Given as goal

abbrev pub invariant-loop-node : goal.invariant-loop-node
invariant-loop-node l = AreCounts l.n l.nodes l.node-index l.counts.items
