-- The neighbour of the front dart in the visible ring.
use Rattle.std.proofs.Common.{◌≡◌, ℕ, true, Some, [], ◌∷◌, ◌++◌, refl, sym, ap, subst, ◌∙◌, ◌⊎◌, inl, inr}
use Rattle.std.proofs.Common as list
use Rattle.leda_base.specs.declared.name.ItemName.TheVariants as names
use Rattle.graph_state.specs.declared.name.ListName.TheVariants.{Out}
use Rattle.graph_state.specs.declared.name.Element.TheVariants.{End}
use Rattle.graph_state.specs.State.{GraphState, front, source}
use Rattle.graph_state.specs.Names.{last_of}
use Rattle.graph_state.specs.Refusals.{AreVisible}
use Rattle.graph_core.specs.Looks.{StandsBetween}
use Rattle.graph_core.proofs.Found.{found_edge, may_have, last_has, front_member, front_linked, seen_between, between, round_back_live, round_back_number}
use Rattle.graph_core.proofs.graph.Graph.cyclic_adj_pred.Goals as goal

pub cyclic_prev-prev-requires : goal.cyclic_prev-prev-requires
cyclic_prev-prev-requires c =
    let a = c.self.inside in
    front_linked a.seen.view a.lists a.heads a.nodes.live a.edges c.self.invariant.kept c.self.invariant.made.1 c.args.e.0.serial c.in-Ok.cell.now c.in-Ok.ensures.0 (subst (λ (s : GraphState). AreVisible s (names.Edge c.args.e.0.serial ∷ [])) (sym c.self.view_is) c.in_ok-see_edge.ensures.visible)

pub edge_at-requires : goal.edge_at-requires
edge_at-requires c =
    let a = c.self.inside in
    let e = c.args.e.0.serial in
    let at = between a.seen.view a.lists a.heads a.nodes.live a.edges c.self.invariant.kept c.self.invariant.made.1 c.args.e.0.serial c.in-Ok.cell.now c.in-Ok.ensures.0 (subst (λ (s : GraphState). AreVisible s (names.Edge c.args.e.0.serial ∷ [])) (sym c.self.view_is) c.in_ok-see_edge.ensures.visible) in
    let xs = (End (front c.args.e.0.serial) ∷ list.map End at.1.0 ++ list.map End at.0) in
    may_have a.lists a.edges true (Some c.cyclic_prev-prev.result) (last_of xs)
    (c.cyclic_prev-prev.ensures true (Out (source a.seen.view e)) (End (front e)) (list.map End at.0) (list.map End at.1.0) (front_member a.seen.view a.lists a.heads a.nodes.live a.edges c.self.invariant.kept c.self.invariant.made.1 c.args.e.0.serial c.in-Ok.cell.now c.in-Ok.ensures.0 (subst (λ (s : GraphState). AreVisible s (names.Edge c.args.e.0.serial ∷ [])) (sym c.self.view_is) c.in_ok-see_edge.ensures.visible)) (seen_between a.seen.view a.lists a.heads a.nodes.live a.edges c.self.invariant.kept c.self.invariant.made.1 c.args.e.0.serial c.in-Ok.cell.now c.in-Ok.ensures.0 (subst (λ (s : GraphState). AreVisible s (names.Edge c.args.e.0.serial ∷ [])) (sym c.self.view_is) c.in_ok-see_edge.ensures.visible) at.0 at.1.0 at.1.1))
    (λ x i. round_back_live a.seen.view a.lists a.heads a.nodes.live a.edges c.self.invariant.kept c.self.invariant.made.1 c.args.e.0.serial c.in-Ok.cell.now c.in-Ok.ensures.0 (subst (λ (s : GraphState). AreVisible s (names.Edge c.args.e.0.serial ∷ [])) (sym c.self.view_is) c.in_ok-see_edge.ensures.visible) at.0 at.1.0 at.1.1 x (last_has xs x i))

pub returns-clause-edge : goal.returns-clause-edge
returns-clause-edge c before behind is =
    let a = c.self.inside in
    let e = c.args.e.0.serial in
    let is' = subst (λ (s : GraphState). StandsBetween s e before behind) (sym c.self.view_is) is in
    let finds = c.cyclic_prev-prev.ensures true (Out (source a.seen.view e)) (End (front e)) (list.map End before) (list.map End behind) (front_member a.seen.view a.lists a.heads a.nodes.live a.edges c.self.invariant.kept c.self.invariant.made.1 c.args.e.0.serial c.in-Ok.cell.now c.in-Ok.ensures.0 (subst (λ (s : GraphState). AreVisible s (names.Edge c.args.e.0.serial ∷ [])) (sym c.self.view_is) c.in_ok-see_edge.ensures.visible)) (seen_between a.seen.view a.lists a.heads a.nodes.live a.edges c.self.invariant.kept c.self.invariant.made.1 c.args.e.0.serial c.in-Ok.cell.now c.in-Ok.ensures.0 (subst (λ (s : GraphState). AreVisible s (names.Edge c.args.e.0.serial ∷ [])) (sym c.self.view_is) c.in_ok-see_edge.ensures.visible) before behind is') in
    found_edge a.lists.named true c.cyclic_prev-prev.result c.edge_at.result.0.serial (last_of (End (front c.args.e.0.serial) ∷ list.map End behind ++ list.map End before)) c.edge_at.ensures finds ∙ round_back_number e before behind
