use Rattle.std.proofs.Common.{sym}
use Rattle.graph_defs.specs.Shortest.{weight}
use Rattle.graph_defs.proofs.Weights.{arcs_end}
use Rattle.sp_check.proofs.ByKind.{never}
use Rattle.sp_check.proofs.cycles.is_negative_cycle.Goals as goal

pub returns-then-end-node : goal.returns-then-end-node
returns-then-end-node c = never _ (λ h. c.if-end-node.true (arcs_end c.args.net.now c.args.node c.in-Some.end c.args.node c.args.cycle.now c.in-Some.ensures.0 h.0))
