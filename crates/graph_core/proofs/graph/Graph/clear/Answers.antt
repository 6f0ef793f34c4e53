-- A node goes each turn, with its edges.
use Rattle.std.proofs.Common.{◌≡◌, [], sym, ap, subst, ◌∙◌, length, arith}
use Rattle.graph_state.specs.State.{GraphState}
use Rattle.graph_state.specs.Edits.{cleared}
use Rattle.graph_state.proofs.Cleared.{cleared_node}
use Rattle.graph_state.proofs.NodeRemoved.{nodes_shrink}
use Rattle.graph_core.specs.Kept.{IsKept}
use Rattle.graph_core.proofs.Cleared.{kept_cleared}
use Rattle.graph_core.proofs.graph.Graph.clear.Goals as goal

pub loop-v-smaller : goal.loop-v-smaller
loop-v-smaller c =
    let n = ap (λ (s : GraphState). length s.nodes) (c.remove_node.ensures ∙ c.remove_incident_edges.ensures.state) in
    let m = nodes_shrink c.loop-v.self c.in-Some.ensures.formed c.in-Some.v c.in-Some.ensures.node in
    omega (arith, n, m)

pub loop-v-preserved : goal.loop-v-preserved
loop-v-preserved c =
    ap cleared (c.remove_node.ensures ∙ c.remove_incident_edges.ensures.state) ∙ cleared_node c.in-Some.v c.loop-v.self ∙ c.loop-v.invariant

pub invariant_of-self : goal.invariant_of-self
unfolding cleared
invariant_of-self c =
    let a = c.self.inside in
    let s = a.seen.view in
    let none = subst (λ (s : GraphState). s.nodes ≡ []) (sym c.self.view_is) c.in_default.ensures.node in
    let is = c.show.ensures in
    record {
      kept = subst (λ s. IsKept s a.lists a.heads a.nodes.live a.edges.live) (sym is) (kept_cleared s a.lists a.heads a.nodes.live a.edges.live c.self.invariant.kept none);
      made = (c.self.invariant.made.0 ∙ sym (ap (λ (s : GraphState). s.made_nodes) is), c.self.invariant.made.1 ∙ sym (ap (λ (s : GraphState). s.made_edges) is));
      directed = c.self.invariant.directed ∙ sym (ap (λ (s : GraphState). s.directed) is);
      types = (c.self.invariant.types.0 ∙ sym (ap (λ (s : GraphState). s.node_type) is), c.self.invariant.types.1 ∙ sym (ap (λ (s : GraphState). s.edge_type) is));
    }
