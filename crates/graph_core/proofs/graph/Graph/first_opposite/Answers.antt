-- The least number in the visible out list of the target.
use Rattle.std.proofs.Common.{◌≡◌, ℕ, true, Some, List, [], ◌∷◌, ◌++◌, refl, sym, ap, subst, ◌∙◌}
use Rattle.std.proofs.Common as list
use Rattle.std.specs.FinMap as map
use Rattle.graph_state.specs.declared.name.ListName.TheVariants.{Out}
use Rattle.graph_state.specs.declared.name.Element.TheVariants.{End}
use Rattle.graph_state.specs.State.{GraphState, visible_out}
use Rattle.graph_state.specs.Names.{Has, number, first_of}
use Rattle.graph_state.specs.Reversals.{AreOpposite}
use Rattle.graph_lists.specs.Named.{seen_list}
use Rattle.graph_lists.specs.Heads.{IsHeadOf}
use Rattle.graph_core.specs.Least.{is_free, IsLeast}
use Rattle.graph_core.specs.Opposite.{can_pair}
use Rattle.graph_core.proofs.Kept.{edge_cell, no_node, out_head, to_listed}
use Rattle.graph_core.proofs.Found.{seen_out, out_live}
use Rattle.graph_core.proofs.Opposite.{found_live, found_opposite, first_by_cell}
use Rattle.graph_core.proofs.graph.Graph.first_opposite.Goals as goal

pub unreachable-requires-in_default-get : goal.unreachable-requires-in_default-get
unreachable-requires-in_default-get c =
    let a = c.self.inside in
    let s = a.seen.view in
    let k = c.self.invariant.kept in
    let e = c.args.e.0.serial in
    let cell = c.in-Ok.cell.now in
    no_node s a.lists a.heads a.nodes.live a.edges.live k cell.to c.in_default-get.ensures.0 (to_listed s k.formed e cell (edge_cell s a.lists a.heads a.nodes.live a.edges.live k e cell c.in-Ok.ensures.0))

pub least_opposite-requires : goal.least_opposite-requires
least_opposite-requires c =
    let a = c.self.inside in
    let s = a.seen.view in
    let k = c.self.invariant.kept in
    let made = c.self.invariant.made.1 in
    let w = c.in-Ok.cell.now.to in
    let to = c.in-Ok-get.to.now in
    (true, (Out w, ((to.outs, (out_head s a.lists a.heads a.nodes.live a.edges.live k w to c.in-Ok-get.ensures.0, refl)), λ x i. out_live s a.lists a.heads a.nodes.live a.edges k made w (list.map End (visible_out s w)) (λ x i. i) x (subst (Has x) (seen_out s a.lists a.heads a.nodes.live a.edges k made w) i))))

pub item_of-requires : goal.item_of-requires
item_of-requires c =
    let a = c.self.inside in
    let s = a.seen.view in
    let k = c.self.invariant.kept in
    let e = c.args.e.0.serial in
    let cell = c.in-Ok.cell.now in
    let to = c.in-Ok-get.to.now in
    let head : IsHeadOf a.lists.named true (Out cell.to) to.outs.shown = (to.outs, (out_head s a.lists a.heads a.nodes.live a.edges.live k cell.to to c.in-Ok-get.ensures.0, refl)) in
    let numbers = list.map number (seen_list a.lists.named true (Out cell.to)) in
    let least = subst (IsLeast (λ f. is_free e cell.from cell.to f (map.get a.edges.live f)) numbers) c.in-Some.is (c.least_opposite.ensures true (Out cell.to) head) in
    found_live s a.lists a.heads a.nodes.live a.edges k c.self.invariant.made.1 e cell c.in-Ok.ensures.0 c.in-Some.f least.0

pub returns-in-Some-clause-first : goal.returns-in-Some-clause-first
returns-in-Some-clause-first c before behind is =
    let a = c.self.inside in
    let s = a.seen.view in
    let k = c.self.invariant.kept in
    let e = c.args.e.0.serial in
    let cell = c.in-Ok.cell.now in
    let to = c.in-Ok-get.to.now in
    let head : IsHeadOf a.lists.named true (Out cell.to) to.outs.shown = (to.outs, (out_head s a.lists a.heads a.nodes.live a.edges.live k cell.to to c.in-Ok-get.ensures.0, refl)) in
    let is' = subst (λ (s : GraphState). s.edges ≡ before ++ e ∷ behind) (sym c.self.view_is) is in
    ap Some c.item_of.ensures ∙ sym c.in-Some.is
    ∙ first_by_cell s a.lists a.heads a.nodes.live a.edges k c.self.invariant.made.1 e before behind is' cell c.in-Ok.ensures.0 c.least_opposite.result (c.least_opposite.ensures true (Out cell.to) head)
    ∙ ap (λ (s : GraphState). first_of (list.filter (can_pair s e) behind)) c.self.view_is

pub returns-in-None-clause-first : goal.returns-in-None-clause-first
returns-in-None-clause-first c before behind is =
    let a = c.self.inside in
    let s = a.seen.view in
    let k = c.self.invariant.kept in
    let e = c.args.e.0.serial in
    let cell = c.in-Ok.cell.now in
    let to = c.in-Ok-get.to.now in
    let head : IsHeadOf a.lists.named true (Out cell.to) to.outs.shown = (to.outs, (out_head s a.lists a.heads a.nodes.live a.edges.live k cell.to to c.in-Ok-get.ensures.0, refl)) in
    let is' = subst (λ (s : GraphState). s.edges ≡ before ++ e ∷ behind) (sym c.self.view_is) is in
    sym c.in-None.is
    ∙ first_by_cell s a.lists a.heads a.nodes.live a.edges k c.self.invariant.made.1 e before behind is' cell c.in-Ok.ensures.0 c.least_opposite.result (c.least_opposite.ensures true (Out cell.to) head)
    ∙ ap (λ (s : GraphState). first_of (list.filter (can_pair s e) behind)) c.self.view_is

pub returns-in-Some-clause-opposite : goal.returns-in-Some-clause-opposite
returns-in-Some-clause-opposite c =
    let a = c.self.inside in
    let s = a.seen.view in
    let k = c.self.invariant.kept in
    let e = c.args.e.0.serial in
    let cell = c.in-Ok.cell.now in
    let to = c.in-Ok-get.to.now in
    let head : IsHeadOf a.lists.named true (Out cell.to) to.outs.shown = (to.outs, (out_head s a.lists a.heads a.nodes.live a.edges.live k cell.to to c.in-Ok-get.ensures.0, refl)) in
    let numbers = list.map number (seen_list a.lists.named true (Out cell.to)) in
    let least = subst (IsLeast (λ f. is_free e cell.from cell.to f (map.get a.edges.live f)) numbers) c.in-Some.is (c.least_opposite.ensures true (Out cell.to) head) in
    subst (λ (s : GraphState). Has c.item_of.result.0.serial s.edges × AreOpposite s e c.item_of.result.0.serial) c.self.view_is
    (subst (λ n. Has n s.edges × AreOpposite s e n) (sym c.item_of.ensures) (found_opposite s a.lists a.heads a.nodes.live a.edges k c.self.invariant.made.1 e cell c.in-Ok.ensures.0 c.in-Some.f least))
