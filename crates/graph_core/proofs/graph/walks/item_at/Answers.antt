-- The tag of the member is the number of a live node or edge.
use Rattle.std.proofs.Common.{sym, ap, ◌∙◌}
use Rattle.std.specs.FinMap as map
use Rattle.graph_state.proofs.Has.{none_some}
use Rattle.graph_core.proofs.graph.walks.item_at.Goals as goal

pub unreachable-requires : goal.unreachable-requires
unreachable-requires g c =
    let h = c.requires in
    let n = c.number.ensures.number h.0 h.1.0 h.1.1.0 in
    none_some (sym c.in-Err.ensures.0 ∙ ap (map.get c.args.cells.now.live) n ∙ h.1.1.1.1.0)

pub returns : goal.returns
returns g c b x w = c.in-Ok.ensures.0 ∙ c.number.ensures.number b x w
