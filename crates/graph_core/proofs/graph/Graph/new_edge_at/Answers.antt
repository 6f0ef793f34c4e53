-- The front dart goes next to that of e, and the back dart to the rear of its list.
use Rattle.std.proofs.Common.{ℕ, ◌+◌, ◌<◌, ◌≤◌, [], ◌∷◌, refl, sym, ap, subst, ◌∙◌}
use Rattle.leda_base.specs.declared.name.ItemName.TheVariants as names
use Rattle.graph_state.specs.State.{GraphState}
use Rattle.graph_state.specs.Names.{back_row}
use Rattle.graph_state.specs.Refusals.{EdgeRoom, AreVisible}
use Rattle.graph_state.proofs.Beside.{adds_beside}
use Rattle.graph_core.specs.Kept.{IsKept}
use Rattle.graph_core.proofs.Kept.{has_edge, cell_ends, kept_room}
use Rattle.graph_core.proofs.Nodes.{ok_then}
use Rattle.graph_core.proofs.Edges.{can_enter_edge}
use Rattle.graph_core.proofs.Beside.{can_enter_beside, kept_beside, shown_beside}
use Rattle.graph_core.proofs.graph.Graph.new_edge_at.Goals as goal

pub enter_beside-item-requires-clause-room : goal.enter_beside-item-requires-clause-room
enter_beside-item-requires-clause-room c =
    let a = c.self.inside in
    let s = a.seen.view in
    let pool = c.make_room.new.pool in
    let m = c.make_room.ensures in
    let ok = sym c.is_err.ensures.value ∙ c.if-is_err.false in
    let k = kept_room s a.lists a.heads a.nodes.live a.edges.live c.self.invariant.kept c.make_room.new.lists a.nodes.live pool.live m.named m.same refl m.kept.0 in
    can_enter_edge s c.make_room.new.lists a.heads a.nodes.live pool k (m.kept.1 ∙ c.self.invariant.made.1) (subst EdgeRoom (sym c.self.view_is) c.in_ok-check_edges.ensures)
    (ok_then c.make_room.result (6 ≤ c.make_room.new.lists.spare_members) ok m.members) (ok_then c.make_room.result (0 < pool.spare) ok m.pool)

pub enter_beside-item-requires-clause-spot : goal.enter_beside-item-requires-clause-spot
enter_beside-item-requires-clause-spot c =
    let a = c.self.inside in
    let s = a.seen.view in
    let e = c.args.e.0.serial in
    let pool = c.make_room.new.pool in
    let m = c.make_room.ensures in
    let k = kept_room s a.lists a.heads a.nodes.live a.edges.live c.self.invariant.kept c.make_room.new.lists a.nodes.live pool.live m.named m.same refl m.kept.0 in
    let see = subst (λ (s : GraphState). AreVisible s (names.Edge e ∷ names.Node c.args.w.0.serial ∷ [])) (sym c.self.view_is) c.in_ok-see_edge_and_node.ensures in
    let cell = has_edge s c.make_room.new.lists a.heads a.nodes.live pool.live k e see.0 in
    can_enter_beside s c.make_room.new.lists a.heads a.nodes.live pool k (m.kept.1 ∙ c.self.invariant.made.1) e cell.0 cell.1 see.1

pub invariant_of-self-2 : goal.invariant_of-self-2
invariant_of-self-2 c =
    let a = c.self.inside in
    let s = a.seen.view in
    let pool = c.make_room.new.pool in
    let m = c.make_room.ensures in
    let k = kept_room s a.lists a.heads a.nodes.live a.edges.live c.self.invariant.kept c.make_room.new.lists a.nodes.live pool.live m.named m.same refl m.kept.0 in
    let made = m.kept.1 ∙ c.self.invariant.made.1 in
    let e = c.args.e.0.serial in
    let w = c.args.w.0.serial in
    let see = subst (λ (s : GraphState). AreVisible s (names.Edge e ∷ names.Node w ∷ [])) (sym c.self.view_is) c.in_ok-see_edge_and_node.ensures in
    let cell = c.in-Some-Ok-Ok.cell.now in
    let from = sym (ap (λ (p : ℕ × ℕ). p.0) (cell_ends s c.make_room.new.lists a.heads a.nodes.live pool.live k e cell c.in-Some-Ok-Ok.ensures.0)) in
    let is = c.show_beside.ensures in
    let adds = adds_beside s c.self.invariant.kept.formed c.args.side e w c.args.label see.0 in
    record {
      kept = subst (λ s. IsKept s c.enter_beside-item.new.lists a.heads a.nodes.live c.enter_beside-item.new.edges.live) (sym is)
          (kept_beside s c.make_room.new.lists a.heads a.nodes.live pool k made c.args.side c.enter_beside-item.new.lists c.enter_beside-item.new.edges e cell.from w c.args.label c.enter_beside-item.result c.back_name.result from
          (c.back_name.ensures ∙ ap (λ d. back_row d w) c.self.invariant.directed) c.enter_beside-item.ensures c.requires (subst EdgeRoom (sym c.self.view_is) c.in_ok-check_edges.ensures) see.0 (c.self.invariant.kept.formed.ends e see.0).0 see.2.0 (shown_beside s e w see));
      made = (c.self.invariant.made.0 ∙ sym (ap (λ (s : GraphState). s.made_nodes) is ∙ adds.made_nodes), c.enter_beside-item.ensures.inserts.made ∙ ap (λ n. n + 1) made ∙ sym (ap (λ (s : GraphState). s.made_edges) is ∙ adds.made_edges));
      directed = c.self.invariant.directed ∙ sym (ap (λ (s : GraphState). s.directed) is ∙ adds.directed);
      types = (c.self.invariant.types.0 ∙ sym (ap (λ (s : GraphState). s.node_type) is ∙ adds.types.0), c.self.invariant.types.1 ∙ sym (ap (λ (s : GraphState). s.edge_type) is ∙ adds.types.1));
    }
