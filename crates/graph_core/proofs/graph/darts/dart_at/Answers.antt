-- The member is compared with that of the front dart.
use Rattle.std.proofs.Common.{true, not, ◌==◌, sym, ap, subst, ◌∙◌}
use Rattle.std.specs.FinMap as map
use Rattle.graph_state.specs.Names.{number}
use Rattle.graph_state.proofs.Has.{none_some}
use Rattle.graph_core.specs.Darts.{IsDart}
use Rattle.graph_core.proofs.Darts.{not_not, dart_is}
use Rattle.graph_core.proofs.graph.darts.dart_at.Goals as goal

pub unreachable-requires : goal.unreachable-requires
unreachable-requires c =
    let h = c.requires in
    none_some (sym c.in_default.ensures.0 ∙ ap (map.get c.args.edges.now.live) (c.number-edge.ensures.number true h.0 h.1.0 ∙ ap (λ x. number x) h.1.1.is) ∙ h.1.1.live)

pub returns : goal.returns
returns c x w =
    let h = c.requires in
    let same = c.number-edge.ensures.one true true x h.0 w h.1.0 in
    dart_is c.args.lists.now.named c.args.edges.now c.args.m c.number-edge.result c.in-Ok.cell.now c.in-Ok.ensures.0 c.number-edge.ensures.one x c.ne.result
    (c.number-edge.ensures.number true x w) (subst (IsDart c.args.lists.now.named c.args.edges.now) (sym same) h.1.1) w
    (sym (ap not c.ne.ensures ∙ not_not (c.in-Ok.cell.now.front.shown == c.args.m)))
