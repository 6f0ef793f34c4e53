use Rattle.std.proofs.Common.{rules}
use Rattle.sp_check.proofs.Steps.{counts_more}
use Rattle.sp_check.proofs.nodes.counts_of.Goals as goal

pub loop-node-preserved : goal.loop-node-preserved
loop-node-preserved c = counts_more c.args.n c.args.nodes.now c.loop-node.node-index c.index.result.now c.more.result c.loop-node.counts.items c.loop-node.invariant (search rules) c.requires c.index.ensures c.more.ensures
