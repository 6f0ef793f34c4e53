-- The node in the cell is listed.
use Rattle.std.proofs.Common.{sym, subst}
use Rattle.graph_state.specs.State.{GraphState}
use Rattle.graph_core.specs.Kept.{IsEdgeCell}
use Rattle.graph_core.proofs.Kept.{no_node, to_listed}
use Rattle.graph_core.proofs.graph.Graph.target.Goals as goal

pub unreachable-requires : goal.unreachable-requires
unreachable-requires c =
    let a = c.self.inside in
    let k = c.self.invariant.kept in
    let cell = c.in_ok-cell.cell.now in
    no_node a.seen.view a.lists a.heads a.nodes.live a.edges.live k cell.to c.in_default.ensures.0
    (to_listed a.seen.view k.formed c.args.e.0.serial cell (subst (λ (s : GraphState). IsEdgeCell s c.args.e.0.serial cell) (sym c.self.view_is) c.in_ok-cell.ensures.cell))
