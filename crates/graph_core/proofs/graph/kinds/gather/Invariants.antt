use Rattle.graph_lists.specs.Named.{SameRoom}
use Rattle.graph_core.specs.Gathers.{Gathering}
use Rattle.graph_core.proofs.graph.kinds.gather.Given as goal

abbrev pub invariant-loop-turn : goal.invariant-loop-turn
invariant-loop-turn l = Gathering l.fn.lists.named l.lists.named l.fn.from l.fn.to l._turn l.at × SameRoom l.fn.lists l.lists
