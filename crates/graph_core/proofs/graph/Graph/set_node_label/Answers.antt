-- The cell of the node gets the label.
use Rattle.std.proofs.Common.{[], ◌∷◌, sym, ap, subst, ◌∙◌}
use Rattle.leda_base.specs.declared.name.ItemName.TheVariants as names
use Rattle.graph_state.specs.State.{GraphState}
use Rattle.graph_state.specs.Edits.{with_node_label}
use Rattle.graph_state.specs.Refusals.{AreVisible}
use Rattle.graph_core.specs.Kept.{IsKept}
use Rattle.graph_core.proofs.Labels.{live_node, kept_node_label}
use Rattle.graph_core.proofs.graph.Graph.set_node_label.Goals as goal

pub put_node_label-requires : goal.put_node_label-requires
put_node_label-requires c =
    let a = c.self.inside in
    let v = c.args.v.0.serial in
    live_node a.seen.view a.lists a.heads a.nodes a.edges.live c.self.invariant.kept c.self.invariant.made.0 v (subst (λ (s : GraphState). AreVisible s (names.Node v ∷ [])) (sym c.self.view_is) c.in_ok-see_node.ensures.visible).0

pub invariant_of-self : goal.invariant_of-self
unfolding with_node_label
invariant_of-self c =
    let a = c.self.inside in
    let s = a.seen.view in
    let v = c.args.v.0.serial in
    let k = c.self.invariant.kept in
    let live = live_node s a.lists a.heads a.nodes a.edges.live k c.self.invariant.made.0 v (subst (λ (s : GraphState). AreVisible s (names.Node v ∷ [])) (sym c.self.view_is) c.in_ok-see_node.ensures.visible).0 in
    let after = c.put_node_label.new.nodes in
    let is = c.show_label.ensures in
    record {
      kept = subst (λ s. IsKept s a.lists a.heads after.live a.edges.live) (sym is)
          (kept_node_label s a.lists a.heads a.nodes.live a.edges.live k v live.0 live.1.0 c.args.label after.live (c.put_node_label.ensures.live live.0 live.1.0) c.requires);
      made = (c.put_node_label.ensures.made ∙ c.self.invariant.made.0 ∙ sym (ap (λ (s : GraphState). s.made_nodes) is), c.self.invariant.made.1 ∙ sym (ap (λ (s : GraphState). s.made_edges) is));
      directed = c.self.invariant.directed ∙ sym (ap (λ (s : GraphState). s.directed) is);
      types = (c.self.invariant.types.0 ∙ sym (ap (λ (s : GraphState). s.node_type) is), c.self.invariant.types.1 ∙ sym (ap (λ (s : GraphState). s.edge_type) is));
    }
