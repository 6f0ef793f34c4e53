-- The row follows the ring of what shows of the list.
use Rattle.std.proofs.Common.{◌≡◌, true, [], ◌∷◌, refl, sym, ap, subst, ◌∙◌}
use Rattle.std.proofs.Common as list
use Rattle.graph_defs.specs.declared.dart.Dart.{Dart}
use Rattle.graph_state.specs.declared.item.EdgeItem.{EdgeItem}
use Rattle.graph_state.specs.declared.name.ListName.TheVariants.{Out}
use Rattle.graph_state.specs.declared.name.Element.TheVariants.{End}
use Rattle.graph_state.specs.State.{GraphState, visible_out}
use Rattle.graph_state.specs.Names.{Has, number}
use Rattle.graph_lists.specs.Heads.{IsHeadOf}
use Rattle.graph_core.proofs.Kept.{out_head}
use Rattle.graph_core.proofs.Found.{seen_out, out_live, end_numbers}
use Rattle.graph_core.proofs.graph.Graph.out_edges.Goals as goal

pub items_in-requires : goal.items_in-requires
items_in-requires c =
    let a = c.self.inside in
    let v = c.args.v.0.serial in
    (true, (Out v, ((c.in-Ok.cell.now.outs, (out_head a.seen.view a.lists a.heads a.nodes.live a.edges.live c.self.invariant.kept v c.in-Ok.cell.now c.in-Ok.ensures.0, refl)), (λ x i. out_live a.seen.view a.lists a.heads a.nodes.live a.edges c.self.invariant.kept c.self.invariant.made.1 v (list.map End (visible_out a.seen.view v)) (λ x i. i) x (subst (Has x) (seen_out a.seen.view a.lists a.heads a.nodes.live a.edges c.self.invariant.kept c.self.invariant.made.1 v) i)))))

pub returns-clause-edges : goal.returns-clause-edges
returns-clause-edges c =
    let a = c.self.inside in
    let v = c.args.v.0.serial in
    let row = c.in_ok-items_in.field-0 in
    let head : IsHeadOf a.lists.named true (Out v) c.in-Ok.cell.now.outs.shown = (c.in-Ok.cell.now.outs, (out_head a.seen.view a.lists a.heads a.nodes.live a.edges.live c.self.invariant.kept v c.in-Ok.cell.now c.in-Ok.ensures.0, refl)) in
    subst (λ (s : GraphState). list.map (λ (e : EdgeItem). e.0.serial) row ≡ list.map (λ (d : Dart). d.edge) (visible_out s v)) c.self.view_is
    (c.in_ok-items_in.ensures true (Out v) head ∙ ap (list.map number) (seen_out a.seen.view a.lists a.heads a.nodes.live a.edges c.self.invariant.kept c.self.invariant.made.1 v) ∙ end_numbers (visible_out a.seen.view v))
