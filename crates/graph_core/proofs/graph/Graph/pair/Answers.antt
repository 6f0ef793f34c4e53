-- Both cells get the reversal, and former partners lose theirs.
use Rattle.std.proofs.Common.{sym, ap, subst, ◌∙◌}
use Rattle.leda_base.specs.declared.name.ItemName.TheVariants as names
use Rattle.graph_state.specs.State.{GraphState}
use Rattle.graph_state.specs.Edits.{paired}
use Rattle.graph_state.specs.Refusals.{IsThere}
use Rattle.graph_state.specs.Reversals.{AreOpposite}
use Rattle.graph_core.specs.Kept.{IsKept}
use Rattle.graph_core.proofs.Pairs.{can_unpair, kept_paired, made_paired}
use Rattle.graph_core.proofs.graph.Graph.pair.Goals as goal

pub pair_cells-requires-clause-first : goal.pair_cells-requires-clause-first
pair_cells-requires-clause-first c =
    let a = c.self.inside in
    let e = c.args.e.0.serial in
    can_unpair a.seen.view a.lists a.heads a.nodes.live a.edges c.self.invariant.kept c.self.invariant.made.1 e (subst (λ (s : GraphState). IsThere s (names.Edge e)) (sym c.self.view_is) c.requires.first)

pub pair_cells-requires-clause-second : goal.pair_cells-requires-clause-second
pair_cells-requires-clause-second c =
    let a = c.self.inside in
    let f = c.args.f.0.serial in
    can_unpair a.seen.view a.lists a.heads a.nodes.live a.edges c.self.invariant.kept c.self.invariant.made.1 f (subst (λ (s : GraphState). IsThere s (names.Edge f)) (sym c.self.view_is) c.requires.second)

pub invariant_of-self : goal.invariant_of-self
unfolding paired
invariant_of-self c =
    let a = c.self.inside in
    let s = a.seen.view in
    let e = c.args.e.0.serial in
    let f = c.args.f.0.serial in
    let k = c.self.invariant.kept in
    let after = c.pair_cells.new.edges in
    let first = subst (λ (s : GraphState). IsThere s (names.Edge e)) (sym c.self.view_is) c.requires.first in
    let second = subst (λ (s : GraphState). IsThere s (names.Edge f)) (sym c.self.view_is) c.requires.second in
    let opposite = subst (λ (s : GraphState). AreOpposite s e f) (sym c.self.view_is) c.requires.opposite in
    let is = c.show.ensures in
    record {
      kept = subst (λ s. IsKept s a.lists a.heads a.nodes.live after.live) (sym is) (kept_paired s a.lists a.heads a.nodes.live a.edges k after e f first second opposite c.pair_cells.ensures);
      made = (c.self.invariant.made.0 ∙ sym (ap (λ (s : GraphState). s.made_nodes) is), made_paired s a.lists a.heads a.nodes.live a.edges k after e f c.pair_cells.ensures ∙ c.self.invariant.made.1 ∙ sym (ap (λ (s : GraphState). s.made_edges) is));
      directed = c.self.invariant.directed ∙ sym (ap (λ (s : GraphState). s.directed) is);
      types = (c.self.invariant.types.0 ∙ sym (ap (λ (s : GraphState). s.node_type) is), c.self.invariant.types.1 ∙ sym (ap (λ (s : GraphState). s.edge_type) is));
    }
