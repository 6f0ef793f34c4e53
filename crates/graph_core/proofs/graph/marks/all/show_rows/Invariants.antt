use Rattle.graph_state.specs.declared.name.ListName.TheVariants.{Nodes}
use Rattle.graph_lists.specs.Named.{SameRoom}
use Rattle.graph_core.specs.NodeMarks.{Passed}
use Rattle.graph_core.specs.Restores.{ShowsRows}
use Rattle.graph_core.proofs.graph.marks.all.show_rows.Given as goal

abbrev pub invariant-loop-turn : goal.invariant-loop-turn
invariant-loop-turn l = Passed (ShowsRows l.fn.lists.named l.lists.named) l.fn.lists.named Nodes l._turn l.at × SameRoom l.fn.lists l.lists
