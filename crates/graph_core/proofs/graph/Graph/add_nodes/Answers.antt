use Rattle.std.proofs.Common.{refl, sym, ap, ◌∙◌}
use Rattle.graph_state.specs.Edits.{with_node}
use Rattle.graph_state.specs.Built.{with_nodes}
use Rattle.graph_state.proofs.Built.{nodes_last}
use Rattle.graph_core.proofs.Replaces.{cut_on}
use Rattle.graph_core.proofs.graph.Graph.add_nodes.Goals as goal

pub loop-label-init : goal.loop-label-init
unfolding with_nodes
loop-label-init c = (sym (c.into_iter-label-iterator.ensures.into_iter_gives.0 ∙ c.into_vec-label-items.ensures), refl)

pub loop-label-preserved : goal.loop-label-preserved
loop-label-preserved c =
    let inv = c.loop-label.invariant in (
      cut_on c.args.labels c.loop-label.yielded c.loop-label.label-iterator.rest.items c.next.new.self.rest.items c.in-Some.label inv.0 c.in-Some.ensures.steps.0,
      c.in-Ok.ensures.state ∙ ap (with_node c.in-Some.label) inv.1 ∙ sym (nodes_last c.loop-label.yielded c.in-Some.label c.args.self.now),
    )
