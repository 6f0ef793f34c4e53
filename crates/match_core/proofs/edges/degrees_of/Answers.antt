use Rattle.std.proofs.Common.{rules}
use Rattle.match_core.proofs.Steps.{degrees_more}
use Rattle.match_core.proofs.edges.degrees_of.Goals as goal

pub loop-edge-preserved : goal.loop-edge-preserved
loop-edge-preserved c = degrees_more c.args.net.now c.args.edges.now c.loop-edge.edge-index c.ends_of-from.result.0 c.ends_of-from.result.1 c.loop-edge.degrees.items c.touch.new.degrees.items c.touch-in-loop-edge.new.degrees.items c.loop-edge.invariant (search rules)
    (search rules) (search rules) c.requires.loops c.ends_of-from.ensures.below.0 c.ends_of-from.ensures.below.1 c.touch.ensures c.touch-in-loop-edge.ensures
