use Rattle.std.proofs.Common.{ap, arith, length, sym, subst, ◌∙◌}
use Rattle.graph_state.specs.Names.{IsOnce}
use Rattle.hide_restore.proofs.Visible.{edges_few}
use Rattle.hide_restore.specs.Net.{numbers_of_edges}
use Rattle.kept_answers.proofs.Listed.{shown_once}
use Rattle.kept_answers.proofs.lookup.edge_places.Goals as goal

pub places_of-requires-clause-once : goal.places_of-requires-clause-once
places_of-requires-clause-once c =
    let same = c.in_ok-numbers_of.ensures ∙ ap numbers_of_edges c.as_slice.ensures ∙ c.requires.edges in
    subst IsOnce (sym same) (shown_once c.args.g.now c.made_nodes-made.ensures.formed)

pub places_of-requires-clause-few : goal.places_of-requires-clause-few
places_of-requires-clause-few c =
    let same = ap length (c.in_ok-numbers_of.ensures ∙ ap numbers_of_edges c.as_slice.ensures ∙ c.requires.edges) in
    let few = edges_few c.args.g.now c.made_nodes-made.ensures.formed in
    omega (arith, same, few)
