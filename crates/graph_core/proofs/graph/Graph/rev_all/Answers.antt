-- The cells and the lists change as the names do.
use Rattle.std.proofs.Common.{sym, ap, subst, ◌∙◌}
use Rattle.graph_state.specs.State.{GraphState}
use Rattle.graph_state.specs.Edits.{all_reversed}
use Rattle.graph_lists.specs.Turned.{turned}
use Rattle.graph_core.specs.Kept.{IsKept}
use Rattle.graph_core.specs.Turns.{node_turned, Changes}
use Rattle.graph_core.proofs.Turning.{has_cells, kept_reversed}
use Rattle.graph_core.proofs.graph.Graph.rev_all.Goals as goal

pub turn_cells-requires : goal.turn_cells-requires
turn_cells-requires c =
    let a = c.self.inside in
    has_cells a.seen.view a.lists a.heads a.nodes a.edges c.self.invariant.kept c.self.invariant.made

pub invariant_of-self : goal.invariant_of-self
unfolding all_reversed
invariant_of-self c =
    let a = c.self.inside in
    let s = a.seen.view in
    let u = c.turn.new.self in
    let p = c.turn_cells.new.nodes in
    let q = c.turn_cells.new.edges in
    let nodes = subst (λ d. Changes (node_turned d) a.nodes p) c.self.invariant.directed c.turn_cells.ensures.nodes in
    let edges = c.turn_cells.ensures.edges in
    let named = c.turn.ensures.named ∙ ap (λ d. turned d a.lists.named) c.self.invariant.directed in
    let is = c.show.ensures in
    record {
      kept = subst (λ s. IsKept s u a.heads p.live q.live) (sym is)
          (kept_reversed s a.lists a.heads a.nodes.live a.edges.live c.self.invariant.kept u p.live q.live nodes.live edges.live named nodes.count edges.count c.turn.ensures.room);
      made = (nodes.made ∙ c.self.invariant.made.0 ∙ sym (ap (λ (s : GraphState). s.made_nodes) is), edges.made ∙ c.self.invariant.made.1 ∙ sym (ap (λ (s : GraphState). s.made_edges) is));
      directed = c.self.invariant.directed ∙ sym (ap (λ (s : GraphState). s.directed) is);
      types = (c.self.invariant.types.0 ∙ sym (ap (λ (s : GraphState). s.node_type) is), c.self.invariant.types.1 ∙ sym (ap (λ (s : GraphState). s.edge_type) is));
    }
