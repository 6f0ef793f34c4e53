-- The edge and its reversal lose each other, and then its cell and its parts go.
use Rattle.std.proofs.Common.{sym, ap, subst, ◌∙◌}
use Rattle.graph_state.specs.declared.name.ListName.TheVariants.{Edges, Out}
use Rattle.graph_state.specs.State.{GraphState, source, target}
use Rattle.graph_state.specs.Names.{Has, back_row}
use Rattle.graph_state.specs.Edits.{unpaired, without_edge}
use Rattle.graph_core.specs.Kept.{IsKept}
use Rattle.graph_core.proofs.Kept.{no_edge}
use Rattle.graph_core.proofs.Hiding.{has_parts}
use Rattle.graph_core.proofs.Pairs.{can_unpair}
use Rattle.graph_core.proofs.LessEdge.{lonely, kept_without, made_without}
use Rattle.graph_core.proofs.graph.Graph.remove_edge.Goals as goal

pub unpair-requires : goal.unpair-requires
unpair-requires c =
    let a = c.self.inside in
    let s = a.seen.view in
    can_unpair s a.lists a.heads a.nodes.live a.edges c.self.invariant.kept c.self.invariant.made.1 c.args.e (subst (λ (s : GraphState). Has c.args.e s.edges) (sym c.self.view_is) c.requires)

pub unreachable-requires : goal.unreachable-requires
unreachable-requires c =
    let a = c.self.inside in
    let s = a.seen.view in
    let e = c.args.e in
    let k = lonely s a.lists a.heads a.nodes.live a.edges c.self.invariant.kept e c.unpair.new.edges c.unpair.ensures in
    no_edge (unpaired e s) a.lists a.heads a.nodes.live c.unpair.new.edges.live k e c.in_default.ensures.0.0 (subst (λ (s : GraphState). Has e s.edges) (sym c.self.view_is) c.requires)

pub drop_parts-requires : goal.drop_parts-requires
drop_parts-requires c =
    let a = c.self.inside in
    let s = a.seen.view in
    let e = c.args.e in
    let k = lonely s a.lists a.heads a.nodes.live a.edges c.self.invariant.kept e c.unpair.new.edges c.unpair.ensures in
    (Edges, Out (source s e), back_row s.directed (target s e), has_parts (unpaired e s) a.lists a.heads a.nodes.live c.unpair.new.edges.live k e c.in-Ok.cell c.in-Ok.ensures.held.0)

pub invariant_of-self : goal.invariant_of-self
unfolding without_edge
invariant_of-self c =
    let a = c.self.inside in
    let s = a.seen.view in
    let e = c.args.e in
    let k = c.self.invariant.kept in
    let is = c.show.ensures in
    record {
      kept = subst (λ s. IsKept s c.drop_parts.new.lists a.heads a.nodes.live c.remove.new.self.live) (sym is)
          (kept_without s a.lists a.heads a.nodes.live a.edges k e c.unpair.new.edges c.unpair.ensures c.drop_parts.new.lists c.remove.new.self c.in-Ok.cell c.in-Ok.ensures c.drop_parts.ensures);
      made = (
        c.self.invariant.made.0 ∙ sym (ap (λ (s : GraphState). s.made_nodes) is),
        made_without s a.lists a.heads a.nodes.live a.edges k e c.unpair.new.edges c.unpair.ensures c.remove.new.self c.in-Ok.cell c.in-Ok.ensures c.self.invariant.made.1 ∙ sym (ap (λ (s : GraphState). s.made_edges) is),
      );
      directed = c.self.invariant.directed ∙ sym (ap (λ (s : GraphState). s.directed) is);
      types = (c.self.invariant.types.0 ∙ sym (ap (λ (s : GraphState). s.node_type) is), c.self.invariant.types.1 ∙ sym (ap (λ (s : GraphState). s.edge_type) is));
    }
