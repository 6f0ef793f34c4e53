-- The cell of the node goes, and its hook and lists.
use Rattle.std.proofs.Common.{sym, ap, subst, ◌∙◌}
use Rattle.graph_state.specs.State.{GraphState}
use Rattle.graph_state.specs.Parts.{IsAlone}
use Rattle.graph_state.proofs.NodeRemoved.{made_same}
use Rattle.graph_core.specs.Kept.{IsKept}
use Rattle.graph_core.proofs.LessNode.{has_node_parts, kept_vacated}
use Rattle.graph_core.proofs.graph.Graph.remove_node.Goals as goal

pub drop_node_parts-requires : goal.drop_node_parts-requires
drop_node_parts-requires c =
    let a = c.self.inside in
    let v = c.args.v in
    let alone = subst (λ s. IsAlone s v) (sym c.self.view_is) c.requires.alone in
    has_node_parts a.seen.view a.lists a.heads a.nodes.live a.edges.live c.self.invariant.kept v c.in-Ok.cell c.in-Ok.ensures.held.0 alone

pub invariant_of-self : goal.invariant_of-self
invariant_of-self c =
    let a = c.self.inside in
    let s = a.seen.view in
    let v = c.args.v in
    let alone = subst (λ s. IsAlone s v) (sym c.self.view_is) c.requires.alone in
    let is = c.show.ensures in
    let same = made_same v s in
    record {
      kept = subst (λ s. IsKept s c.drop_node_parts.new.lists a.heads c.remove.new.self.live a.edges.live) (sym is)
          (kept_vacated s a.lists a.heads a.nodes.live a.edges.live c.self.invariant.kept v c.in-Ok.cell c.in-Ok.ensures.held.0 alone c.drop_node_parts.new.lists c.remove.new.self.live c.in-Ok.ensures.live c.drop_node_parts.ensures);
      made = (
        c.in-Ok.ensures.made ∙ c.self.invariant.made.0 ∙ sym (ap (λ (s : GraphState). s.made_nodes) is ∙ same.made_nodes),
        c.self.invariant.made.1 ∙ sym (ap (λ (s : GraphState). s.made_edges) is ∙ same.made_edges),
      );
      directed = c.self.invariant.directed ∙ sym (ap (λ (s : GraphState). s.directed) is ∙ same.directed);
      types = (
        c.self.invariant.types.0 ∙ sym (ap (λ (s : GraphState). s.node_type) is ∙ same.node_type),
        c.self.invariant.types.1 ∙ sym (ap (λ (s : GraphState). s.edge_type) is ∙ same.edge_type),
      );
    }
