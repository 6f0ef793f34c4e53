-- Each of the nodes is visible.
use Rattle.std.proofs.Common.{get_or}
use Rattle.graph_state.specs.declared.item.NodeItem.{NodeItem}
use Rattle.graph_state.proofs.Has.{has_map}
use Rattle.hide_restore.proofs.Numbers.{has_at}
use Rattle.hide_restore.proofs.canon.edges_of.Goals as goal

pub add_from-requires : goal.add_from-requires
add_from-requires c =
    let none : NodeItem = record { 0 = record { slot = 0; serial = 0 } } in
    let node : NodeItem = get_or c.args.nodes.now c.loop-node.node-index none in
    c.requires node.0.serial (has_map (λ (v : NodeItem). v.0.serial) node c.args.nodes.now (has_at c.args.nodes.now c.loop-node.node-index none c.loop-node-test.true))
