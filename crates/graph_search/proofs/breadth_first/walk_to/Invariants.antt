use Rattle.std.proofs.Common.{◌<◌, length, reverse}
use Rattle.graph_defs.specs.declared.net.Net.{Net}
use Rattle.graph_defs.specs.Walk.{IsWalk}
use Rattle.graph_defs.specs.Grouped.{grouped}
use Rattle.graph_search.specs.Tree.{found_at, IsTree}
use Rattle.graph_search.proofs.breadth_first.walk_to.Given as goal

abbrev pub invariant-loop-at : goal.invariant-loop-at
invariant-loop-at l = (l.at < length l.queue)
    × ((net : Net) → IsTree (grouped net.n net.arcs) l.queue → IsWalk net (found_at l.queue l.at).node (found_at l.queue l.place).node (reverse l.arcs.items))

abbrev pub decreases-loop-at : goal.decreases-loop-at
decreases-loop-at l = l.at
