-- An edge of the node goes each turn, and the order doesn't matter.
use Rattle.std.proofs.Common.{sym, ap, subst, ◌∙◌, length, arith}
use Rattle.graph_state.specs.State.{GraphState}
use Rattle.graph_state.specs.Names.{Has}
use Rattle.graph_state.specs.Edits.{without_node}
use Rattle.graph_state.proofs.NodeRemoved.{without_first, edges_shrink, nodes_same}
use Rattle.graph_core.proofs.graph.Graph.remove_incident_edges.Goals as goal

pub loop-e-smaller : goal.loop-e-smaller
loop-e-smaller c =
    let n = ap (λ (s : GraphState). length s.edges) c.remove_edge.ensures in
    let m = edges_shrink c.loop-e.self c.in-Some.ensures.formed c.in-Some.e c.in-Some.ensures.edge.0 in
    omega (arith, n, m)

pub loop-e-preserved : goal.loop-e-preserved
loop-e-preserved c =
    let s = c.loop-e.self in
    let e = c.in-Some.e in
    let v = c.args.v in (
      subst (λ (s : GraphState). Has v s.nodes) (sym c.remove_edge.ensures) (subst (Has v) (sym (nodes_same e s)) c.loop-e.invariant.0),
      ap (without_node v) c.remove_edge.ensures ∙ without_first s c.in-Some.ensures.formed v e c.in-Some.ensures.edge.0 c.in-Some.ensures.edge.1 ∙ c.loop-e.invariant.1,
    )
