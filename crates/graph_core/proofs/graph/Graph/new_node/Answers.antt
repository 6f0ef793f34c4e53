-- The node goes to the rear of the node list.
use Rattle.std.proofs.Common.{◌+◌, ◌<◌, ◌≤◌, Some, refl, sym, ap, subst, ◌∙◌}
use Rattle.graph_state.specs.State.{GraphState}
use Rattle.graph_state.specs.Edits.{with_node}
use Rattle.graph_state.specs.Refusals.{NodeRoom}
use Rattle.graph_core.specs.Kept.{IsKept}
use Rattle.graph_core.proofs.Kept.{kept_room}
use Rattle.graph_core.proofs.Nodes.{ok_then, kept_open, can_enter_node, kept_node, room_left}
use Rattle.graph_core.proofs.graph.Graph.new_node.Goals as goal

pub enter_node-item-requires : goal.enter_node-item-requires
enter_node-item-requires c =
    let a = c.self.inside in
    let s = a.seen.view in
    let pool = c.make_room.new.pool in
    let m = c.make_room.ensures in
    let ok = sym c.is_err.ensures.value ∙ c.if-is_err.false in
    let k = kept_room s a.lists a.heads a.nodes.live a.edges.live c.self.invariant.kept c.make_room.new.lists pool.live a.edges.live m.named m.same m.kept.0 refl in
    let o = subst (λ h. IsKept s c.open.new.lists h pool.live a.edges.live) c.in-Some.is (kept_open s c.make_room.new.lists a.heads pool.live a.edges.live k c.open.new.lists c.open.new.heads c.open.ensures) in
    let left = room_left c.make_room.new.lists c.open.new.lists a.heads c.open.new.heads c.open.ensures (ok_then c.make_room.result (8 ≤ c.make_room.new.lists.spare_heads) ok m.heads) in
    can_enter_node s c.open.new.lists c.in-Some.heads pool a.edges.live o (m.kept.1 ∙ c.self.invariant.made.0) (subst NodeRoom (sym c.self.view_is) c.in_ok-check_nodes.ensures)
    left.0 (subst (λ n. 2 ≤ n) (sym left.1) (ok_then c.make_room.result (2 ≤ c.make_room.new.lists.spare_members) ok m.members)) (ok_then c.make_room.result (0 < pool.spare) ok m.pool)

pub invariant_of-self-2 : goal.invariant_of-self-2
unfolding with_node
invariant_of-self-2 c =
    let a = c.self.inside in
    let s = a.seen.view in
    let pool = c.make_room.new.pool in
    let m = c.make_room.ensures in
    let k = kept_room s a.lists a.heads a.nodes.live a.edges.live c.self.invariant.kept c.make_room.new.lists pool.live a.edges.live m.named m.same m.kept.0 refl in
    let o = subst (λ h. IsKept s c.open.new.lists h pool.live a.edges.live) c.in-Some.is (kept_open s c.make_room.new.lists a.heads pool.live a.edges.live k c.open.new.lists c.open.new.heads c.open.ensures) in
    let made = m.kept.1 ∙ c.self.invariant.made.0 in
    let is = c.show_label.ensures in
    record {
      kept = subst (λ h. IsKept c.show_label.new.seen.view c.enter_node-item.new.lists h c.enter_node-item.new.nodes.live a.edges.live) (sym c.in-Some.is)
          (subst (λ s. IsKept s c.enter_node-item.new.lists (Some c.in-Some.heads) c.enter_node-item.new.nodes.live a.edges.live) (sym is)
          (kept_node s c.open.new.lists c.in-Some.heads pool a.edges.live o made c.enter_node-item.new.lists c.enter_node-item.new.nodes c.args.label c.enter_node-item.result c.enter_node-item.ensures c.requires (subst NodeRoom (sym c.self.view_is) c.in_ok-check_nodes.ensures)));
      made = (c.enter_node-item.ensures.inserts.made ∙ ap (λ n. n + 1) made ∙ sym (ap (λ (s : GraphState). s.made_nodes) is), c.self.invariant.made.1 ∙ sym (ap (λ (s : GraphState). s.made_edges) is));
      directed = c.self.invariant.directed ∙ sym (ap (λ (s : GraphState). s.directed) is);
      types = (c.self.invariant.types.0 ∙ sym (ap (λ (s : GraphState). s.node_type) is), c.self.invariant.types.1 ∙ sym (ap (λ (s : GraphState). s.edge_type) is));
    }
