-- The cell of the edge gets the label.
use Rattle.std.proofs.Common.{[], ◌∷◌, sym, ap, subst, ◌∙◌}
use Rattle.leda_base.specs.declared.name.ItemName.TheVariants as names
use Rattle.graph_state.specs.State.{GraphState}
use Rattle.graph_state.specs.Edits.{with_edge_label}
use Rattle.graph_state.specs.Refusals.{AreVisible}
use Rattle.graph_core.specs.Kept.{IsKept}
use Rattle.graph_core.proofs.Found.{has_live}
use Rattle.graph_core.proofs.Labels.{kept_edge_label}
use Rattle.graph_core.proofs.graph.Graph.set_edge_label.Goals as goal

pub put_edge_label-requires : goal.put_edge_label-requires
put_edge_label-requires c =
    let a = c.self.inside in
    let e = c.args.e.0.serial in
    has_live a.seen.view a.lists a.heads a.nodes.live a.edges c.self.invariant.kept c.self.invariant.made.1 e (subst (λ (s : GraphState). AreVisible s (names.Edge e ∷ [])) (sym c.self.view_is) c.in_ok-see_edge.ensures.visible).0

pub invariant_of-self : goal.invariant_of-self
unfolding with_edge_label
invariant_of-self c =
    let a = c.self.inside in
    let s = a.seen.view in
    let e = c.args.e.0.serial in
    let k = c.self.invariant.kept in
    let live = has_live s a.lists a.heads a.nodes.live a.edges k c.self.invariant.made.1 e (subst (λ (s : GraphState). AreVisible s (names.Edge e ∷ [])) (sym c.self.view_is) c.in_ok-see_edge.ensures.visible).0 in
    let after = c.put_edge_label.new.edges in
    let is = c.show_label.ensures in
    record {
      kept = subst (λ s. IsKept s a.lists a.heads a.nodes.live after.live) (sym is)
          (kept_edge_label s a.lists a.heads a.nodes.live a.edges.live k e live.0 live.1.0 c.args.label after.live (c.put_edge_label.ensures.live live.0 live.1.0) c.requires);
      made = (c.self.invariant.made.0 ∙ sym (ap (λ (s : GraphState). s.made_nodes) is), c.put_edge_label.ensures.made ∙ c.self.invariant.made.1 ∙ sym (ap (λ (s : GraphState). s.made_edges) is));
      directed = c.self.invariant.directed ∙ sym (ap (λ (s : GraphState). s.directed) is);
      types = (c.self.invariant.types.0 ∙ sym (ap (λ (s : GraphState). s.node_type) is), c.self.invariant.types.1 ∙ sym (ap (λ (s : GraphState). s.edge_type) is));
    }
