-- The ends of the edge change places.
use Rattle.std.proofs.Common.{[], ◌∷◌, sym, ap, subst, ◌∙◌}
use Rattle.leda_base.specs.declared.name.ItemName.TheVariants as names
use Rattle.graph_state.specs.State.{GraphState}
use Rattle.graph_state.specs.Edits.{moved, reversed}
use Rattle.graph_state.specs.Refusals.{AreVisible}
use Rattle.graph_core.proofs.Relocated.{turned, turned_is}
use Rattle.graph_core.proofs.graph.Graph.rev_edge.Goals as goal

pub relocate-requires : goal.relocate-requires
relocate-requires c =
    let a = c.self.inside in
    let e = c.args.e.0.serial in
    let cell = c.in-Ok.cell.now in
    let see = subst (λ (s : GraphState). AreVisible s (names.Edge e ∷ [])) (sym c.self.view_is) c.in_ok-see_edge.ensures.visible in
    subst (λ (s : GraphState). AreVisible s (names.Edge e ∷ names.Node cell.to ∷ names.Node cell.from ∷ [])) c.self.view_is
    (turned a.seen.view a.lists a.heads a.nodes.live a.edges.live c.self.invariant.kept e cell c.in-Ok.ensures.0 see)

pub returns-clause-state : goal.returns-clause-state
returns-clause-state c =
    let a = c.self.inside in
    let e = c.args.e.0.serial in
    let cell = c.in-Ok.cell.now in
    c.relocate.ensures ∙ ap (moved e cell.to cell.from) (sym c.self.view_is)
    ∙ turned_is a.seen.view a.lists a.heads a.nodes.live a.edges.live c.self.invariant.kept e cell c.in-Ok.ensures.0 ∙ ap (reversed e) c.self.view_is
