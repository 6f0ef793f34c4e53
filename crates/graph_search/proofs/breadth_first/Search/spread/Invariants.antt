use Rattle.graph_search.specs.Tree.{IsSpreading}
use Rattle.graph_search.proofs.breadth_first.Search.spread.Given as goal

abbrev pub invariant-loop-entry : goal.invariant-loop-entry
invariant-loop-entry l = IsSpreading l.rows l.t l.row l.entry-index l.fn.self.visited.items l.fn.self.queue.items l.self.visited.items l.self.queue.items
