-- The list says which pool has the cell, and the member is compared with that of the front dart.
use Rattle.std.proofs.Common.{false, sym, ap, ◌∙◌}
use Rattle.std.specs.FinMap as map
use Rattle.graph_state.proofs.Has.{none_some}
use Rattle.graph_core.proofs.Nearest.{node_token, other_token, at_node, at_edge, at_front, at_back}
use Rattle.graph_core.proofs.graph.marks.element_at.Goals as goal

pub unreachable-requires : goal.unreachable-requires
unreachable-requires c =
    let h = c.requires in
    let t = node_token c.args.lists.now.named c.args.nodes.now c.args.edges.now c.args.list h.0 c.in-Nodes.is h.1.1.1 in
    none_some (sym c.in_default-get.ensures.0 ∙ ap (map.get c.args.nodes.now.live) (c.number-serial.ensures.number false h.0 h.1.1.0) ∙ t.live)

pub returns-in-Nodes : goal.returns-in-Nodes
returns-in-Nodes c x i w t =
    at_node c.args.lists.now.named c.args.nodes.now c.number-serial.result c.in-Ok.cell.now x c.in-Ok.ensures.0 (c.number-serial.ensures.number false x w) (node_token c.args.lists.now.named c.args.nodes.now c.args.edges.now c.args.list x c.in-Nodes.is t)

pub unreachable-requires-in_default-get-2 : goal.unreachable-requires-in_default-get-2
unreachable-requires-in_default-get-2 c =
    let h = c.requires in
    let t = other_token c.args.lists.now.named c.args.nodes.now c.args.edges.now c.args.list h.0 c.in_default.not-Nodes h.1.1.1 in
    none_some (sym c.in_default-get-2.ensures.0 ∙ ap (map.get c.args.edges.now.live) (c.number-serial.ensures.number false h.0 h.1.1.0) ∙ t.live)

pub returns-in-Edges : goal.returns-in-Edges
returns-in-Edges c x i w t =
    at_edge c.args.lists.now.named c.args.edges.now c.args.list c.args.m c.number-serial.result c.in-Ok-get.cell.now c.in-Ok-get.ensures.0 x c.in-Edges.is (c.number-serial.ensures.number false x w) (other_token c.args.lists.now.named c.args.nodes.now c.args.edges.now c.args.list x c.in_default.not-Nodes t)

pub returns-then-eq : goal.returns-then-eq
returns-then-eq c x i w t =
    let r = at_front c.args.lists.now.named c.args.edges.now c.args.list c.args.m c.number-serial.result c.in-Ok-get.cell.now c.in-Ok-get.ensures.0 x (c.number-serial.ensures.number false x w) (other_token c.args.lists.now.named c.args.nodes.now c.args.edges.now c.args.list x c.in_default.not-Nodes t) w c.number-serial.ensures.one (sym c.eq.ensures ∙ c.if-eq.true) in
    (c.dart.ensures ∙ r.0, r.1)

pub returns : goal.returns
returns c x i w t =
    let r = at_back c.args.lists.now.named c.args.edges.now c.args.list c.args.m c.number-serial.result c.in-Ok-get.cell.now c.in-Ok-get.ensures.0 x c.in_default-list.not-Edges (c.number-serial.ensures.number false x w) (other_token c.args.lists.now.named c.args.nodes.now c.args.edges.now c.args.list x c.in_default.not-Nodes t) w (sym c.eq.ensures ∙ c.if-eq.false) in
    (c.dart-2.ensures ∙ r.0, r.1)
