-- The edge and its darts go back into the rings of what shows, where both ends show.
use Rattle.std.proofs.Common.{◌≡◌, true, false, sym, ap, subst, ◌∙◌}
use Rattle.std.specs.FinSet as set
use Rattle.graph_state.specs.State.{GraphState}
use Rattle.graph_state.specs.Edits.{edge_restored}
use Rattle.graph_state.proofs.Marked.{restored_marks}
use Rattle.graph_core.specs.Kept.{IsKept}
use Rattle.graph_core.proofs.Kept.{edge_cell}
use Rattle.graph_core.proofs.Remarked.{nodes_as_before}
use Rattle.graph_core.proofs.Hiding.{kept_marked, parts_shown}
use Rattle.graph_core.proofs.Showing.{some_top, no_some, can_show, marks_parts, both_show, both_is}
use Rattle.graph_core.proofs.graph.Graph.restore_edge.Goals as goal

pub unreachable-requires-in_default-heads : goal.unreachable-requires-in_default-heads
unreachable-requires-in_default-heads c =
    let a = c.self.inside in
    let e = c.args.e.0.serial in
    some_top a.seen.view a.lists a.heads a.nodes.live a.edges c.self.invariant.kept e (edge_cell a.seen.view a.lists a.heads a.nodes.live a.edges.live c.self.invariant.kept e c.in-Ok.cell.now c.in-Ok.ensures.0).listed (no_some a.heads c.in_default-heads.not-Some)

pub show_parts-requires : goal.show_parts-requires
show_parts-requires c =
    let a = c.self.inside in
    let e = c.args.e.0.serial in
    can_show a.seen.view a.lists a.heads a.nodes.live a.edges c.self.invariant.kept a.nodes a.seen.view.hidden_nodes (nodes_as_before a.seen.view a.lists a.heads a.nodes.live a.edges.live c.self.invariant.kept) e c.in-Ok.cell.now c.in-Ok.ensures.0 c.in-Some.heads c.in-Some.is a.directed c.self.invariant.directed

pub invariant_of-self : goal.invariant_of-self
unfolding edge_restored
invariant_of-self c =
    let a = c.self.inside in
    let s = a.seen.view in
    let e = c.args.e.0.serial in
    let k = c.self.invariant.kept in
    let u = c.show_parts.new.lists in
    let q = c.set_mark.new.edges.live in
    let h = set.remove s.hidden_edges e in
    let cell = c.in-Ok.cell.now in
    let at = c.in-Ok.ensures.0 in
    let hidden = subst (λ (s : GraphState). set.contains s.hidden_edges e ≡ true) (sym c.self.view_is) c.requires.hidden in
    let parts = marks_parts s a.lists a.heads a.nodes a.edges k e cell at hidden u.named c.show_parts.ensures.named in
    let room = c.show_parts.ensures.room in
    let cells = c.set_mark.ensures.live cell at in
    let is = c.show.ensures in
    record {
      kept = subst (λ s. IsKept s u a.heads a.nodes.live q) (sym is)
          (kept_marked s a.lists a.heads a.nodes.live a.edges.live k e cell at u q false h (restored_marks s.hidden_edges e) cells parts.same room
          (parts_shown s a.lists a.heads a.nodes.live a.edges.live k e cell at u q false h (restored_marks s.hidden_edges e) cells parts.same room (both_show s a.lists a.heads a.nodes a.edges k e cell at hidden) (both_is s a.lists a.heads a.nodes a.edges k e cell at hidden) parts));
      made = (c.self.invariant.made.0 ∙ sym (ap (λ (s : GraphState). s.made_nodes) is), c.set_mark.ensures.made ∙ c.self.invariant.made.1 ∙ sym (ap (λ (s : GraphState). s.made_edges) is));
      directed = c.self.invariant.directed ∙ sym (ap (λ (s : GraphState). s.directed) is);
      types = (c.self.invariant.types.0 ∙ sym (ap (λ (s : GraphState). s.node_type) is), c.self.invariant.types.1 ∙ sym (ap (λ (s : GraphState). s.edge_type) is));
    }
