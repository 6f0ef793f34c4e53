-- The row follows the ring of what shows of the list.
use Rattle.std.proofs.Common.{◌≡◌, true, refl, subst, ◌∙◌}
use Rattle.graph_state.specs.declared.name.ListName.TheVariants.{Out}
use Rattle.graph_state.specs.State.{GraphState, visible_out}
use Rattle.graph_lists.specs.Heads.{IsHeadOf}
use Rattle.graph_core.proofs.Kept.{out_head}
use Rattle.graph_core.proofs.Found.{seen_out}
use Rattle.graph_core.proofs.Darts.{out_dart_at, same_darts}
use Rattle.graph_core.proofs.graph.Graph.out_darts.Goals as goal

pub darts_in-requires : goal.darts_in-requires
darts_in-requires c =
    let a = c.self.inside in
    let v = c.args.v.0.serial in
    (Out v, ((c.in-Ok.cell.now.outs, (out_head a.seen.view a.lists a.heads a.nodes.live a.edges.live c.self.invariant.kept v c.in-Ok.cell.now c.in-Ok.ensures.0, refl)), out_dart_at a.seen.view a.lists a.heads a.nodes.live a.edges c.self.invariant.kept c.self.invariant.made.1 v))

pub returns-clause-darts : goal.returns-clause-darts
returns-clause-darts c =
    let a = c.self.inside in
    let v = c.args.v.0.serial in
    let row = c.in_ok-darts_in.field-0 in
    let head : IsHeadOf a.lists.named true (Out v) c.in-Ok.cell.now.outs.shown = (c.in-Ok.cell.now.outs, (out_head a.seen.view a.lists a.heads a.nodes.live a.edges.live c.self.invariant.kept v c.in-Ok.cell.now c.in-Ok.ensures.0, refl)) in
    subst (λ (s : GraphState). row ≡ visible_out s v) c.self.view_is
    (same_darts row (visible_out a.seen.view v) (c.in_ok-darts_in.ensures (Out v) head ∙ seen_out a.seen.view a.lists a.heads a.nodes.live a.edges c.self.invariant.kept c.self.invariant.made.1 v))
