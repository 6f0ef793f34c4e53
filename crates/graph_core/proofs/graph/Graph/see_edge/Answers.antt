-- The edge stands in the edge list.
use Rattle.graph_state.specs.declared.name.Element.TheVariants.{Edge}
use Rattle.graph_core.proofs.Kept.{edge_cell, stands_in}
use Rattle.graph_core.proofs.graph.Graph.see_edge.Goals as goal

pub is_shown-requires-clause-there : goal.is_shown-requires-clause-there
is_shown-requires-clause-there c =
    let a = c.self.inside in
    let k = c.self.invariant.kept in
    stands_in a.seen.view a.lists a.heads a.nodes.live a.edges.live k (Edge c.args.e.0.serial) (edge_cell a.seen.view a.lists a.heads a.nodes.live a.edges.live k c.args.e.0.serial c.in-Ok.cell.now c.in-Ok.ensures.0).listed
