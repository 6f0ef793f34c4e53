use Rattle.std.proofs.Common.{ℕ, List, false}
use Rattle.graph_state.specs.declared.name.ListName.TheVariants.{Nodes}
use Rattle.graph_state.specs.Names.{number}
use Rattle.graph_lists.specs.Named.{list_at, SameRoom}
use Rattle.graph_core.specs.Members.{Walks}
use Rattle.graph_core.specs.Gathers.{GathersAll}
use Rattle.graph_core.proofs.graph.kinds.gather_each.Given as goal

-- the numbers of the nodes passed, whose back darts are gone to the other list
abbrev pub invariant-loop-turn : goal.invariant-loop-turn
invariant-loop-turn l =
    (vs : List ℕ) × (Walks (λ (k : ℕ). k) number l.lists.named false (list_at l.fn.lists.named Nodes) vs l._turn l.at
    × GathersAll l.fn.lists.named l.lists.named l.fn.directed vs × SameRoom l.fn.lists l.lists)
