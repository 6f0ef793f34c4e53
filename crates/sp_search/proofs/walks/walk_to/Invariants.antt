use Rattle.std.proofs.Common.{◌<◌, length}
use Rattle.sp_search.proofs.Reaches.{Walks}
use Rattle.sp_search.proofs.walks.walk_to.Given as goal

abbrev pub invariant-loop-arc : goal.invariant-loop-arc
invariant-loop-arc l = (l.at < length l.queue) × Walks l.queue l.at l.node l.arcs.items

abbrev pub decreases-loop-arc : goal.decreases-loop-arc
decreases-loop-arc l = l.at
