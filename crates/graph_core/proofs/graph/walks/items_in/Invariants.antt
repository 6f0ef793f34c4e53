use Rattle.std.proofs.Common.{Bool}
use Rattle.graph_state.specs.declared.name.ListName.{ListName}
use Rattle.graph_state.specs.Names.{number}
use Rattle.graph_lists.specs.Named.{seen_list}
use Rattle.graph_lists.specs.Heads.{IsHeadOf}
use Rattle.graph_core.specs.Members.{Walks}
use Rattle.graph_core.proofs.graph.walks.items_in.Given as goal

abbrev pub invariant-loop-turn : goal.invariant-loop-turn
invariant-loop-turn g l =
    (b : Bool) (n : ListName) → IsHeadOf l.lists.named b n l.fn.head → Walks g.I.ByItem.serial number l.lists.named b (seen_list l.lists.named b n) l.row l._turn l.at
