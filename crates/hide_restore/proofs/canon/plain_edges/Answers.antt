-- Each of the edges is visible.
use Rattle.std.proofs.Common.{get_or, subst, ◌∙◌}
use Rattle.graph_state.specs.Names.{Has}
use Rattle.hide_restore.proofs.Numbers.{has_at}
use Rattle.hide_restore.proofs.Ordered.{edges_visible}
use Rattle.hide_restore.proofs.canon.plain_edges.Goals as goal

pub plain_edge-requires-clause-visible : goal.plain_edge-requires-clause-visible
plain_edge-requires-clause-visible c =
    let number = get_or c.numbers-numbers.result.now c.loop-number.number-index 0 in
    edges_visible c.args.g.now c.requires.formed number
    (subst (Has number) (c.numbers-numbers.ensures ∙ c.requires.edges) (has_at c.numbers-numbers.result.now c.loop-number.number-index 0 c.loop-number-test.true))
