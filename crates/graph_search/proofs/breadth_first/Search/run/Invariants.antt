use Rattle.std.proofs.Common.{◌-◌, length}
use Rattle.graph_search.specs.Tree.{found_at, IsUnderWay}
use Rattle.graph_search.proofs.breadth_first.Search.run.Given as goal

abbrev pub invariant-loop-head : goal.invariant-loop-head
invariant-loop-head l = IsUnderWay l.rows (found_at l.fn.self.queue.items 0).node l.t l.head l.self.visited.items l.self.queue.items

abbrev pub decreases-loop-head : goal.decreases-loop-head
decreases-loop-head l = length l.rows - l.head
