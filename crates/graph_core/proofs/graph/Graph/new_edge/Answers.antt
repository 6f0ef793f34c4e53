-- The darts go to the rear of their lists.
use Rattle.std.proofs.Common.{◌+◌, ◌<◌, ◌≤◌, [], ◌∷◌, refl, sym, ap, subst, ◌∙◌}
use Rattle.leda_base.specs.declared.name.ItemName.TheVariants as names
use Rattle.graph_state.specs.State.{GraphState}
use Rattle.graph_state.specs.Names.{back_row}
use Rattle.graph_state.specs.Edits.{with_edge}
use Rattle.graph_state.specs.Refusals.{EdgeRoom, AreVisible}
use Rattle.graph_core.specs.Kept.{IsKept}
use Rattle.graph_core.proofs.Kept.{kept_room}
use Rattle.graph_core.proofs.Nodes.{ok_then}
use Rattle.graph_core.proofs.Edges.{can_enter_edge, kept_edge, shown_ends}
use Rattle.graph_core.proofs.graph.Graph.new_edge.Goals as goal

pub enter_edge-item-requires-clause-room : goal.enter_edge-item-requires-clause-room
enter_edge-item-requires-clause-room c =
    let a = c.self.inside in
    let s = a.seen.view in
    let pool = c.make_room.new.pool in
    let m = c.make_room.ensures in
    let ok = sym c.is_err.ensures.value ∙ c.if-is_err.false in
    let k = kept_room s a.lists a.heads a.nodes.live a.edges.live c.self.invariant.kept c.make_room.new.lists a.nodes.live pool.live m.named m.same refl m.kept.0 in
    can_enter_edge s c.make_room.new.lists a.heads a.nodes.live pool k (m.kept.1 ∙ c.self.invariant.made.1) (subst EdgeRoom (sym c.self.view_is) c.in_ok-check_edges.ensures)
    (ok_then c.make_room.result (6 ≤ c.make_room.new.lists.spare_members) ok m.members) (ok_then c.make_room.result (0 < pool.spare) ok m.pool)

pub invariant_of-self-2 : goal.invariant_of-self-2
unfolding with_edge
invariant_of-self-2 c =
    let a = c.self.inside in
    let s = a.seen.view in
    let pool = c.make_room.new.pool in
    let m = c.make_room.ensures in
    let k = kept_room s a.lists a.heads a.nodes.live a.edges.live c.self.invariant.kept c.make_room.new.lists a.nodes.live pool.live m.named m.same refl m.kept.0 in
    let made = m.kept.1 ∙ c.self.invariant.made.1 in
    let v = c.args.v.0.serial in
    let w = c.args.w.0.serial in
    let see = subst (λ (s : GraphState). AreVisible s (names.Node v ∷ names.Node w ∷ [])) (sym c.self.view_is) c.in_ok-see_ends.ensures in
    let is = c.show_label.ensures in
    record {
      kept = subst (λ s. IsKept s c.enter_edge-item.new.lists a.heads a.nodes.live c.enter_edge-item.new.edges.live) (sym is)
          (kept_edge s c.make_room.new.lists a.heads a.nodes.live pool k made c.enter_edge-item.new.lists c.enter_edge-item.new.edges v w c.args.label c.enter_edge-item.result c.back_name.result
          (c.back_name.ensures ∙ ap (λ d. back_row d w) c.self.invariant.directed) c.enter_edge-item.ensures c.requires (subst EdgeRoom (sym c.self.view_is) c.in_ok-check_edges.ensures) see.0 see.2.0 (shown_ends s v w see));
      made = (c.self.invariant.made.0 ∙ sym (ap (λ (s : GraphState). s.made_nodes) is), c.enter_edge-item.ensures.inserts.made ∙ ap (λ n. n + 1) made ∙ sym (ap (λ (s : GraphState). s.made_edges) is));
      directed = c.self.invariant.directed ∙ sym (ap (λ (s : GraphState). s.directed) is);
      types = (c.self.invariant.types.0 ∙ sym (ap (λ (s : GraphState). s.node_type) is), c.self.invariant.types.1 ∙ sym (ap (λ (s : GraphState). s.edge_type) is));
    }
