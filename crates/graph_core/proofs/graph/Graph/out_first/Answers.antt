-- The first member of the visible ring.
use Rattle.std.proofs.Common.{true, option_map, refl, ap, subst, ◌∙◌}
use Rattle.graph_state.specs.declared.name.ListName.TheVariants.{Out}
use Rattle.graph_state.specs.State.{GraphState, visible_out}
use Rattle.graph_state.specs.Names.{Has, number, first_of}
use Rattle.graph_lists.specs.Named.{seen_list}
use Rattle.graph_lists.specs.Heads.{IsHeadOf}
use Rattle.graph_core.specs.Looks.{IsEdgeOf}
use Rattle.graph_core.proofs.Kept.{out_head}
use Rattle.graph_core.proofs.Found.{may_have, first_has, first_number, seen_out, out_live}
use Rattle.graph_core.proofs.graph.Graph.out_first.Goals as goal

pub first-first-requires : goal.first-first-requires
first-first-requires c =
    let a = c.self.inside in
    (true, (Out c.args.v.0.serial, (c.in-Ok.cell.now.outs, (out_head a.seen.view a.lists a.heads a.nodes.live a.edges.live c.self.invariant.kept c.args.v.0.serial c.in-Ok.cell.now c.in-Ok.ensures.0, refl))))

pub may_edge_at-requires : goal.may_edge_at-requires
may_edge_at-requires c =
    let a = c.self.inside in
    let v = c.args.v.0.serial in
    let head : IsHeadOf a.lists.named true (Out v) c.in-Ok.cell.now.outs.shown = (c.in-Ok.cell.now.outs, (out_head a.seen.view a.lists a.heads a.nodes.live a.edges.live c.self.invariant.kept v c.in-Ok.cell.now c.in-Ok.ensures.0, refl)) in
    may_have a.lists a.edges true c.first-first.result (first_of (seen_list a.lists.named true (Out v))) (c.first-first.ensures true (Out v) head)
    (λ x e. out_live a.seen.view a.lists a.heads a.nodes.live a.edges c.self.invariant.kept c.self.invariant.made.1 v (seen_list a.lists.named true (Out v)) (λ x i. subst (Has x) (seen_out a.seen.view a.lists a.heads a.nodes.live a.edges c.self.invariant.kept c.self.invariant.made.1 v) i) x (first_has (seen_list a.lists.named true (Out v)) x e))

pub returns-clause-edge : goal.returns-clause-edge
returns-clause-edge c =
    let a = c.self.inside in
    let v = c.args.v.0.serial in
    let head : IsHeadOf a.lists.named true (Out v) c.in-Ok.cell.now.outs.shown = (c.in-Ok.cell.now.outs, (out_head a.seen.view a.lists a.heads a.nodes.live a.edges.live c.self.invariant.kept v c.in-Ok.cell.now c.in-Ok.ensures.0, refl)) in
    subst (λ (s : GraphState). IsEdgeOf c.may_edge_at.result (first_of (visible_out s v))) c.self.view_is
    (c.may_edge_at.ensures true (first_of (seen_list a.lists.named true (Out v))) (c.first-first.ensures true (Out v) head) ∙ ap (λ xs. option_map number (first_of xs)) (seen_out a.seen.view a.lists a.heads a.nodes.live a.edges c.self.invariant.kept c.self.invariant.made.1 v) ∙ first_number (visible_out a.seen.view v))
