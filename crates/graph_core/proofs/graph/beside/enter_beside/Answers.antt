-- The old front dart is none of the new elements.
use Rattle.std.proofs.Common.{◌+◌, ◌<◌, sym, ap, subst, ◌∙◌}
use Rattle.graph_state.specs.declared.name.ListName.TheVariants.{Edges}
use Rattle.graph_state.specs.declared.name.Element.TheVariants.{Edge, End}
use Rattle.graph_state.specs.State.{front, back}
use Rattle.graph_lists.specs.Named.{hooked, pushed}
use Rattle.graph_core.proofs.Beside.{can_put_front}
use Rattle.graph_core.proofs.graph.beside.enter_beside.Goals as goal

pub put_front-requires : goal.put_front-requires
put_front-requires c =
    let n = c.made-e.result + 1 in
    can_put_front c.args.lists.now c.args.edges.now c.args.spot.edge n (subst (λ m. c.args.spot.edge < m + 1) (sym c.made-e.ensures.made) c.requires.spot.old) c.requires.spot.beside
    c.add_element-hook.result c.add_element-first.result c.add_element-second.result c.push_back.new.self
    (c.push_back.ensures.named ∙ ap (pushed Edges (Edge n)) (c.add_element-second.ensures.named ∙ ap (hooked (End (back n)) c.add_element-second.result) (c.add_element-first.ensures.named ∙ ap (hooked (End (front n)) c.add_element-first.result) c.add_element-hook.ensures.named)))
