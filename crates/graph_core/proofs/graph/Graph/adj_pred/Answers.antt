-- The neighbour of the front dart in the visible ring.
use Rattle.std.proofs.Common.{◌≡◌, ℕ, true, Some, [], ◌∷◌, ◌++◌, refl, sym, ap, subst, ◌∙◌, ◌⊎◌, inl, inr}
use Rattle.std.proofs.Common as list
use Rattle.leda_base.specs.declared.name.ItemName.TheVariants as names
use Rattle.graph_state.specs.declared.name.ListName.TheVariants.{Out}
use Rattle.graph_state.specs.declared.name.Element.TheVariants.{End}
use Rattle.graph_state.specs.State.{GraphState, front, source}
use Rattle.graph_state.specs.Names.{last_of}
use Rattle.graph_state.specs.Refusals.{AreVisible}
use Rattle.graph_core.specs.Looks.{StandsBetween}
use Rattle.graph_core.proofs.Found.{may_have, last_has, last_number, front_member, front_linked, seen_between, before_live, between}
use Rattle.graph_core.proofs.graph.Graph.adj_pred.Goals as goal

pub prev-prev-requires : goal.prev-prev-requires
prev-prev-requires c =
    let a = c.self.inside in
    front_linked a.seen.view a.lists a.heads a.nodes.live a.edges c.self.invariant.kept c.self.invariant.made.1 c.args.e.0.serial c.in-Ok.cell.now c.in-Ok.ensures.0 (subst (λ (s : GraphState). AreVisible s (names.Edge c.args.e.0.serial ∷ [])) (sym c.self.view_is) c.in_ok-see_edge.ensures.visible)

pub may_edge_at-requires : goal.may_edge_at-requires
may_edge_at-requires c =
    let a = c.self.inside in
    let e = c.args.e.0.serial in
    let at = between a.seen.view a.lists a.heads a.nodes.live a.edges c.self.invariant.kept c.self.invariant.made.1 c.args.e.0.serial c.in-Ok.cell.now c.in-Ok.ensures.0 (subst (λ (s : GraphState). AreVisible s (names.Edge c.args.e.0.serial ∷ [])) (sym c.self.view_is) c.in_ok-see_edge.ensures.visible) in
    let xs = (list.map End at.0) in
    may_have a.lists a.edges true c.prev-prev.result (last_of xs)
    (c.prev-prev.ensures true (Out (source a.seen.view e)) (End (front e)) (list.map End at.0) (list.map End at.1.0) (front_member a.seen.view a.lists a.heads a.nodes.live a.edges c.self.invariant.kept c.self.invariant.made.1 c.args.e.0.serial c.in-Ok.cell.now c.in-Ok.ensures.0 (subst (λ (s : GraphState). AreVisible s (names.Edge c.args.e.0.serial ∷ [])) (sym c.self.view_is) c.in_ok-see_edge.ensures.visible)) (seen_between a.seen.view a.lists a.heads a.nodes.live a.edges c.self.invariant.kept c.self.invariant.made.1 c.args.e.0.serial c.in-Ok.cell.now c.in-Ok.ensures.0 (subst (λ (s : GraphState). AreVisible s (names.Edge c.args.e.0.serial ∷ [])) (sym c.self.view_is) c.in_ok-see_edge.ensures.visible) at.0 at.1.0 at.1.1))
    (λ x i. before_live a.seen.view a.lists a.heads a.nodes.live a.edges c.self.invariant.kept c.self.invariant.made.1 c.args.e.0.serial c.in-Ok.cell.now c.in-Ok.ensures.0 (subst (λ (s : GraphState). AreVisible s (names.Edge c.args.e.0.serial ∷ [])) (sym c.self.view_is) c.in_ok-see_edge.ensures.visible) at.0 at.1.0 at.1.1 x (last_has xs x i))

pub returns-clause-edge : goal.returns-clause-edge
returns-clause-edge c before behind is =
    let a = c.self.inside in
    let e = c.args.e.0.serial in
    let is' = subst (λ (s : GraphState). StandsBetween s e before behind) (sym c.self.view_is) is in
    let finds = c.prev-prev.ensures true (Out (source a.seen.view e)) (End (front e)) (list.map End before) (list.map End behind) (front_member a.seen.view a.lists a.heads a.nodes.live a.edges c.self.invariant.kept c.self.invariant.made.1 c.args.e.0.serial c.in-Ok.cell.now c.in-Ok.ensures.0 (subst (λ (s : GraphState). AreVisible s (names.Edge c.args.e.0.serial ∷ [])) (sym c.self.view_is) c.in_ok-see_edge.ensures.visible)) (seen_between a.seen.view a.lists a.heads a.nodes.live a.edges c.self.invariant.kept c.self.invariant.made.1 c.args.e.0.serial c.in-Ok.cell.now c.in-Ok.ensures.0 (subst (λ (s : GraphState). AreVisible s (names.Edge c.args.e.0.serial ∷ [])) (sym c.self.view_is) c.in_ok-see_edge.ensures.visible) before behind is') in
    c.may_edge_at.ensures true (last_of (list.map End before)) finds ∙ last_number before
