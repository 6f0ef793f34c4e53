-- The row follows the ring of what shows of the list.
use Rattle.std.proofs.Common.{◌≡◌, true, [], ◌∷◌, refl, sym, ap, subst, ◌∙◌}
use Rattle.std.proofs.Common as list
use Rattle.graph_defs.specs.declared.dart.Dart.{Dart}
use Rattle.graph_state.specs.declared.item.EdgeItem.{EdgeItem}
use Rattle.graph_state.specs.declared.name.ListName.TheVariants.{In}
use Rattle.graph_state.specs.State.{GraphState, visible_in}
use Rattle.graph_state.specs.Names.{Has, number}
use Rattle.graph_lists.specs.Heads.{IsHeadOf}
use Rattle.graph_core.proofs.Kept.{in_head}
use Rattle.graph_core.proofs.Found.{seen_in, in_live, end_numbers}
use Rattle.graph_core.proofs.graph.Graph.in_edges.Goals as goal

pub items_in-requires : goal.items_in-requires
items_in-requires c =
    let a = c.self.inside in
    let v = c.args.v.0.serial in
    (true, (In v, ((c.in-Ok.cell.now.ins, (in_head a.seen.view a.lists a.heads a.nodes.live a.edges.live c.self.invariant.kept v c.in-Ok.cell.now c.in-Ok.ensures.0, refl)), (λ x i. in_live a.seen.view a.lists a.heads a.nodes.live a.edges c.self.invariant.kept c.self.invariant.made.1 v x (subst (Has x) (seen_in a.seen.view a.lists a.heads a.nodes.live a.edges c.self.invariant.kept c.self.invariant.made.1 v) i)))))

pub returns-clause-edges : goal.returns-clause-edges
returns-clause-edges c =
    let a = c.self.inside in
    let v = c.args.v.0.serial in
    let row = c.in_ok-items_in.field-0 in
    let head : IsHeadOf a.lists.named true (In v) c.in-Ok.cell.now.ins.shown = (c.in-Ok.cell.now.ins, (in_head a.seen.view a.lists a.heads a.nodes.live a.edges.live c.self.invariant.kept v c.in-Ok.cell.now c.in-Ok.ensures.0, refl)) in
    subst (λ (s : GraphState). list.map (λ (e : EdgeItem). e.0.serial) row ≡ list.map (λ (d : Dart). d.edge) (visible_in s v)) c.self.view_is
    (c.in_ok-items_in.ensures true (In v) head ∙ ap (list.map number) (seen_in a.seen.view a.lists a.heads a.nodes.live a.edges c.self.invariant.kept c.self.invariant.made.1 v) ∙ end_numbers (visible_in a.seen.view v))
