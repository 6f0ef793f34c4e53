use Rattle.std.proofs.Common.{rules}
use Rattle.match_core.proofs.Steps.{no_loops}
use Rattle.match_core.proofs.edges.first_loop.Goals as goal

pub returns-else-least-arcs : goal.returns-else-least-arcs
returns-else-least-arcs c = no_loops c.args.net.now c.args.edges.now c.least_loop-least.result c.least_loop-least.ensures c.requires.among (search rules)
