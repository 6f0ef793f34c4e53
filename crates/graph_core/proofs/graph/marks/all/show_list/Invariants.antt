use Rattle.graph_lists.specs.Named.{SameRoom}
use Rattle.graph_core.specs.NodeMarks.{Passed}
use Rattle.graph_core.specs.Restores.{ShowsAll}
use Rattle.graph_core.proofs.graph.marks.all.show_list.Given as goal

abbrev pub invariant-loop-turn : goal.invariant-loop-turn
invariant-loop-turn l = Passed (ShowsAll l.fn.lists.named l.lists.named) l.fn.lists.named l.fn.list l._turn l.at × SameRoom l.fn.lists l.lists
