-- The reversal in the cell is there.
use Rattle.std.proofs.Common.{◌∙◌}
use Rattle.graph_core.proofs.Kept.{edge_cell}
use Rattle.graph_core.proofs.Pairs.{reversal_live}
use Rattle.graph_core.proofs.graph.Graph.live_partner.Goals as goal

pub item_of-requires : goal.item_of-requires
item_of-requires c =
    let a = c.self.inside in
    let e = c.args.e.0.serial in
    reversal_live a.seen.view a.lists a.heads a.nodes.live a.edges c.self.invariant.kept c.self.invariant.made.1 e c.in-Some.f
    ((edge_cell a.seen.view a.lists a.heads a.nodes.live a.edges.live c.self.invariant.kept e c.in-Ok.cell.now c.in-Ok.ensures.0).reversal ∙ c.in-Some.is)
