use Rattle.graph_core.specs.Marks.{Passes}
use Rattle.graph_core.proofs.graph.marks.nearest.Given as goal

abbrev pub invariant-loop-turn : goal.invariant-loop-turn
invariant-loop-turn l = Passes l.lists.named l.list l.fn.x l._turn l.at
