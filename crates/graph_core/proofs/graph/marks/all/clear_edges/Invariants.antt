use Rattle.std.proofs.Common.{◌≡◌}
use Rattle.graph_state.specs.declared.name.ListName.TheVariants.{Edges}
use Rattle.graph_core.specs.NodeMarks.{Passed}
use Rattle.graph_core.specs.Restores.{bare_edge, Clears}
use Rattle.graph_core.proofs.graph.marks.all.clear_edges.Given as goal

abbrev pub invariant-loop-turn : goal.invariant-loop-turn
invariant-loop-turn l = Passed (Clears bare_edge l.fn.edges.live l.edges.live) l.lists.named Edges l._turn l.at × (l.edges.made ≡ l.fn.edges.made)
