-- Nothing is there.
use Rattle.std.proofs.Common.{None, ap, sym, subst, ◌∙◌}
use Rattle.item_pool.specs.Contents.{Contents}
use Rattle.graph_state.specs.State.{GraphState, new_graph}
use Rattle.graph_core.specs.declared.cell.NodeCell.{NodeCell}
use Rattle.graph_core.specs.declared.cell.EdgeCell.{EdgeCell}
use Rattle.graph_core.specs.Kept.{IsKept}
use Rattle.graph_core.proofs.Begins.{kept_none}
use Rattle.graph_core.proofs.graph.Graph.begin.Goals as goal

pub invariant_of-result : goal.invariant_of-result
unfolding new_graph
invariant_of-result c =
    let is = c.begin-seen.ensures in
    let p = ap (λ (p : Contents NodeCell). p.live) c.behind.ensures in
    let q = ap (λ (p : Contents EdgeCell). p.live) c.behind-2.ensures in
    record {
      kept = subst (λ s. IsKept s c.new.result None c.behind.result.live c.behind-2.result.live) (sym is)
          (kept_none c.args.directed c.args.node_type c.args.edge_type c.args.made_nodes c.args.made_edges c.new.result c.behind.result.live c.behind-2.result.live c.new.ensures.named c.new.ensures.none p q (c.requires.nodes, c.requires.edges) c.requires.types);
      made = (ap (λ (p : Contents NodeCell). p.made) c.behind.ensures ∙ sym (ap (λ (s : GraphState). s.made_nodes) is), ap (λ (p : Contents EdgeCell). p.made) c.behind-2.ensures ∙ sym (ap (λ (s : GraphState). s.made_edges) is));
      directed = sym (ap (λ (s : GraphState). s.directed) is);
      types = (sym (ap (λ (s : GraphState). s.node_type) is), sym (ap (λ (s : GraphState). s.edge_type) is));
    }
