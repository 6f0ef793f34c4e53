use Rattle.std.proofs.Common.{rules}
use Rattle.match_core.proofs.Steps.{least_more}
use Rattle.match_core.proofs.edges.least_loop.Goals as goal

pub loop-edge-preserved : goal.loop-edge-preserved
loop-edge-preserved c = least_more c.args.net.now c.args.edges.now c.loop-edge.edge-index c.loop-edge.least c.lesser_loop-least.result c.loop-edge.invariant (search rules) (search rules) (search rules)
