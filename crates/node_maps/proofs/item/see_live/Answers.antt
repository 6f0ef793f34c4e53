-- The state is well-formed.
use Rattle.node_maps.proofs.item.see_live.Goals as goal

pub returns-in-Ok-clause-given : goal.returns-in-Ok-clause-given
returns-in-Ok-clause-given g c = g.met.E.GraphItem.given c.args.g.now c.see_formed.ensures (g.E.GraphItem.number c.args.v) c.in-Ok.ensures.0
