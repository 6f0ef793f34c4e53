use Rattle.std.proofs.Common.{◌≡◌}
use Rattle.graph_state.specs.declared.name.ListName.TheVariants.{Nodes}
use Rattle.graph_core.specs.NodeMarks.{Passed}
use Rattle.graph_core.specs.Restores.{bare_node, Clears}
use Rattle.graph_core.proofs.graph.marks.all.clear_nodes.Given as goal

abbrev pub invariant-loop-turn : goal.invariant-loop-turn
invariant-loop-turn l = Passed (Clears bare_node l.fn.nodes.live l.nodes.live) l.lists.named Nodes l._turn l.at × (l.nodes.made ≡ l.fn.nodes.made)
