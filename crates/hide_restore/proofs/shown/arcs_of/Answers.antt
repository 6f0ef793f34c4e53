-- The row has an arc for each edge that was passed.
use Rattle.std.proofs.Common.{get_or}
use Rattle.graph_state.specs.declared.item.EdgeItem.{EdgeItem}
use Rattle.graph_state.proofs.Has.{has_map}
use Rattle.hide_restore.proofs.Numbers.{has_at}
use Rattle.hide_restore.proofs.shown.arcs_of.Goals as goal

pub arc-requires-clause-visible : goal.arc-requires-clause-visible
arc-requires-clause-visible c =
    let none : EdgeItem = record { 0 = record { slot = 0; serial = 0 } } in
    let edge : EdgeItem = get_or c.args.edges.now c.loop-edge.edge-index none in
    c.requires.visible edge.0.serial (has_map (λ (e : EdgeItem). e.0.serial) edge c.args.edges.now (has_at c.args.edges.now c.loop-edge.edge-index none c.loop-edge-test.true))
