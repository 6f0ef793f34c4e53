use Rattle.std.proofs.Common.{◌-◌, length}
use Rattle.flow_net.specs.Search.{found_at, IsUnderWay}
use Rattle.flow_net.proofs.breadth_first.Search.run.Given as goal

abbrev pub invariant-loop-head : goal.invariant-loop-head
invariant-loop-head l = IsUnderWay l.rows l.cap l.flow (found_at l.fn.self.queue.items 0).node l.head l.self.visited.items l.self.queue.items

abbrev pub decreases-loop-head : goal.decreases-loop-head
decreases-loop-head l = length l.rows - l.head
