-- The state is well-formed.
use Rattle.std.proofs.Common.{sym, subst}
use Rattle.graph_state.specs.Names.{Has, IsOnce}
use Rattle.node_maps.proofs.item.all_items.Goals as goal

pub returns-clause-once : goal.returns-clause-once
returns-clause-once g c = subst IsOnce (sym c.in_ok-items.ensures) (g.met.E.GraphItem.once c.args.g.now c.see_formed.ensures)

pub returns-clause-given : goal.returns-clause-given
returns-clause-given g c n has = g.met.E.GraphItem.given c.args.g.now c.see_formed.ensures n (subst (Has n) c.in_ok-items.ensures has)
