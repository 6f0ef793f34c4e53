use Rattle.graph_lists.specs.Named.{SameRoom}
use Rattle.graph_core.specs.NodeMarks.{turns, TurnsAll, Passed}
use Rattle.graph_core.proofs.graph.marks.nodes.turn_edges.Given as goal

abbrev pub invariant-loop-turn : goal.invariant-loop-turn
invariant-loop-turn l =
    Passed (TurnsAll (turns l.shows l.nodes.live l.edges.live) l.shows l.fn.lists.named l.lists.named) l.fn.lists.named l.fn.list l._turn l.at × SameRoom l.fn.lists l.lists
