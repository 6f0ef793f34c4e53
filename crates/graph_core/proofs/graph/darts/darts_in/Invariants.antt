use Rattle.graph_state.specs.declared.name.ListName.{ListName}
use Rattle.std.proofs.Common.{true}
use Rattle.graph_state.specs.declared.name.Element.TheVariants.{End}
use Rattle.graph_lists.specs.Named.{seen_list}
use Rattle.graph_lists.specs.Heads.{IsHeadOf}
use Rattle.graph_core.specs.Members.{Walks}
use Rattle.graph_core.proofs.graph.darts.darts_in.Given as goal

abbrev pub invariant-loop-turn : goal.invariant-loop-turn
invariant-loop-turn l =
    (n : ListName) → IsHeadOf l.lists.named true n l.fn.head → Walks End (λ x. x) l.lists.named true (seen_list l.lists.named true n) l.row l._turn l.at
