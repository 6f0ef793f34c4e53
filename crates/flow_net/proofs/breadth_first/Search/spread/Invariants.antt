use Rattle.flow_net.specs.Search.{found_at, IsSpreading}
use Rattle.flow_net.proofs.breadth_first.Search.spread.Given as goal

abbrev pub invariant-loop-entry : goal.invariant-loop-entry
invariant-loop-entry l = IsSpreading l.rows l.cap l.flow (found_at l.fn.self.queue.items 0).node l.row l.entry-index l.fn.self.visited.items l.fn.self.queue.items
    l.self.visited.items l.self.queue.items
