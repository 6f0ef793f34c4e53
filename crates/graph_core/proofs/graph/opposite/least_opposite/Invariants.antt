use Rattle.std.proofs.Common.{Bool, List, ℕ}
use Rattle.std.specs.FinMap as map
use Rattle.graph_state.specs.declared.name.ListName.{ListName}
use Rattle.graph_state.specs.Names.{number}
use Rattle.graph_lists.specs.Named.{seen_list}
use Rattle.graph_lists.specs.Heads.{IsHeadOf}
use Rattle.graph_core.specs.Members.{Walks}
use Rattle.graph_core.specs.Least.{is_free, IsLeast}
use Rattle.graph_core.proofs.graph.opposite.least_opposite.Given as goal

abbrev pub invariant-loop-turn : goal.invariant-loop-turn
invariant-loop-turn l =
    (b : Bool) (n : ListName) → IsHeadOf l.lists.named b n l.fn.head
    → (row : List ℕ) × (Walks (λ (i : ℕ). i) number l.lists.named b (seen_list l.lists.named b n) row l._turn l.at × IsLeast (λ f. is_free l.sought.edge l.sought.from l.sought.to f (map.get l.edges.live f)) row l.least)
