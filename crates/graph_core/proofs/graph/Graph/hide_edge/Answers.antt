-- The edge and its darts leave the rings of what shows, where they are in them.
use Rattle.std.proofs.Common.{true, false, refl, sym, ap, subst, ◌∙◌}
use Rattle.std.specs.FinSet as set
use Rattle.graph_state.specs.declared.name.ListName.TheVariants.{Edges, Out}
use Rattle.graph_state.specs.State.{GraphState, source, target}
use Rattle.graph_state.specs.Names.{back_row}
use Rattle.graph_state.specs.Edits.{edge_hidden}
use Rattle.graph_state.proofs.Marked.{hidden_marks}
use Rattle.graph_core.specs.Kept.{IsKept}
use Rattle.graph_core.proofs.Hiding.{has_parts, kept_marked, parts_shown}
use Rattle.graph_core.proofs.graph.Graph.hide_edge.Goals as goal

pub hide_parts-requires : goal.hide_parts-requires
hide_parts-requires c =
    let a = c.self.inside in
    let s = a.seen.view in
    let e = c.args.e.0.serial in
    (Edges, Out (source s e), back_row s.directed (target s e), has_parts s a.lists a.heads a.nodes.live a.edges.live c.self.invariant.kept e c.in-Ok.cell.now c.in-Ok.ensures.0)

pub invariant_of-self : goal.invariant_of-self
unfolding edge_hidden
invariant_of-self c =
    let a = c.self.inside in
    let s = a.seen.view in
    let e = c.args.e.0.serial in
    let k = c.self.invariant.kept in
    let u = c.hide_parts.new.lists in
    let q = c.set_mark.new.edges.live in
    let h = set.insert s.hidden_edges e in
    let cell = c.in-Ok.cell.now in
    let at = c.in-Ok.ensures.0 in
    let parts = c.hide_parts.ensures.named in
    let room = c.hide_parts.ensures.room in
    let cells = c.set_mark.ensures.live cell at in
    let is = c.show.ensures in
    record {
      kept = subst (λ s. IsKept s u a.heads a.nodes.live q) (sym is)
          (kept_marked s a.lists a.heads a.nodes.live a.edges.live k e cell at u q true h (hidden_marks s.hidden_edges e) cells parts.same room
          (parts_shown s a.lists a.heads a.nodes.live a.edges.live k e cell at u q true h (hidden_marks s.hidden_edges e) cells parts.same room false refl parts));
      made = (c.self.invariant.made.0 ∙ sym (ap (λ (s : GraphState). s.made_nodes) is), c.set_mark.ensures.made ∙ c.self.invariant.made.1 ∙ sym (ap (λ (s : GraphState). s.made_edges) is));
      directed = c.self.invariant.directed ∙ sym (ap (λ (s : GraphState). s.directed) is);
      types = (c.self.invariant.types.0 ∙ sym (ap (λ (s : GraphState). s.node_type) is), c.self.invariant.types.1 ∙ sym (ap (λ (s : GraphState). s.edge_type) is));
    }
