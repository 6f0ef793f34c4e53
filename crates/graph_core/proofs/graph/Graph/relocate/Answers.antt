-- The edge and its reversal lose each other, and then its darts go elsewhere.
use Rattle.std.proofs.Common.{[], ◌∷◌, sym, ap, subst, ◌∙◌}
use Rattle.leda_base.specs.declared.name.ItemName.TheVariants as names
use Rattle.graph_state.specs.declared.name.ListName.TheVariants.{Edges, Out}
use Rattle.graph_state.specs.State.{GraphState, source, target}
use Rattle.graph_state.specs.Names.{back_row}
use Rattle.graph_state.specs.Edits.{unpaired, moved}
use Rattle.graph_state.specs.Refusals.{AreVisible}
use Rattle.graph_core.specs.Kept.{IsKept}
use Rattle.graph_core.proofs.Kept.{no_node, no_edge}
use Rattle.graph_core.proofs.Hiding.{has_parts}
use Rattle.graph_core.proofs.Edges.{shown_ends}
use Rattle.graph_core.proofs.Pairs.{can_unpair, made_unpaired}
use Rattle.graph_core.proofs.LessEdge.{lonely}
use Rattle.graph_core.proofs.Relocated.{kept_relocated}
use Rattle.graph_core.proofs.graph.Graph.relocate.Goals.{in_default-via-in-Ok+in-Ok+in_default, in_default-via-in-Ok+in_default, in_default-via-in_default}
use Rattle.graph_core.proofs.graph.Graph.relocate.Goals as goal

pub unpair-requires : goal.unpair-requires
unpair-requires c =
    let a = c.self.inside in
    let see = subst (λ (s : GraphState). AreVisible s (names.Edge c.args.e ∷ names.Node c.args.v ∷ names.Node c.args.w ∷ [])) (sym c.self.view_is) c.requires in
    can_unpair a.seen.view a.lists a.heads a.nodes.live a.edges c.self.invariant.kept c.self.invariant.made.1 c.args.e see.0

pub unreachable-requires : goal.unreachable-requires
unreachable-requires c =
    let a = c.self.inside in
    let s = a.seen.view in
    let e = c.args.e in
    let k = c.self.invariant.kept in
    let see = subst (λ (s : GraphState). AreVisible s (names.Edge e ∷ names.Node c.args.v ∷ names.Node c.args.w ∷ [])) (sym c.self.view_is) c.requires in
    elim c.in_default.branch [
      | in_default-via-in-Ok+in-Ok+in_default x ↦ no_node s a.lists a.heads a.nodes.live a.edges.live k c.args.w x.in_default.ensures''.0 see.2.2.0
      | in_default-via-in-Ok+in_default x ↦ no_node s a.lists a.heads a.nodes.live a.edges.live k c.args.v x.in_default.ensures'.0 see.2.0
      | in_default-via-in_default x ↦
          no_edge (unpaired e s) a.lists a.heads a.nodes.live c.unpair.new.edges.live (lonely s a.lists a.heads a.nodes.live a.edges k e c.unpair.new.edges c.unpair.ensures) e x.in_default.ensures.0 see.0
    ]

pub move_darts-requires-clause-parts : goal.move_darts-requires-clause-parts
move_darts-requires-clause-parts c =
    let a = c.self.inside in
    let s = a.seen.view in
    let e = c.args.e in
    let k = lonely s a.lists a.heads a.nodes.live a.edges c.self.invariant.kept e c.unpair.new.edges c.unpair.ensures in
    (Edges, Out (source s e), back_row s.directed (target s e), has_parts (unpaired e s) a.lists a.heads a.nodes.live c.unpair.new.edges.live k e c.in-Ok-Ok-Ok.cell.now c.in-Ok-Ok-Ok.ensures.0)

pub invariant_of-self : goal.invariant_of-self
unfolding moved
invariant_of-self c =
    let a = c.self.inside in
    let s = a.seen.view in
    let e = c.args.e in
    let v = c.args.v in
    let w = c.args.w in
    let k = c.self.invariant.kept in
    let see = subst (λ (s : GraphState). AreVisible s (names.Edge e ∷ names.Node v ∷ names.Node w ∷ [])) (sym c.self.view_is) c.requires in
    let cell = c.in-Ok-Ok-Ok.cell.now in
    let at = c.in-Ok-Ok-Ok.ensures.0 in
    let row = c.back_name-row.ensures ∙ ap (λ d. back_row d w) c.self.invariant.directed in
    let is = c.show.ensures in
    record {
      kept = subst (λ s. IsKept s c.move_darts.new.lists a.heads a.nodes.live c.set_ends.new.edges.live) (sym is)
          (kept_relocated s a.lists a.heads a.nodes.live a.edges k e v w c.unpair.new.edges c.unpair.ensures c.move_darts.new.lists c.set_ends.new.edges cell c.back_name-row.result at (c.set_ends.ensures.live cell at) row c.move_darts.ensures
          see.1 (shown_ends s v w see.2) see.2.0 see.2.2.0);
      made = (
        c.self.invariant.made.0 ∙ sym (ap (λ (s : GraphState). s.made_nodes) is),
        c.set_ends.ensures.made ∙ made_unpaired s a.lists a.heads a.nodes.live a.edges k c.unpair.new.edges e c.unpair.ensures ∙ c.self.invariant.made.1 ∙ sym (ap (λ (s : GraphState). s.made_edges) is),
      );
      directed = c.self.invariant.directed ∙ sym (ap (λ (s : GraphState). s.directed) is);
      types = (c.self.invariant.types.0 ∙ sym (ap (λ (s : GraphState). s.node_type) is), c.self.invariant.types.1 ∙ sym (ap (λ (s : GraphState). s.edge_type) is));
    }
