use Rattle.std.proofs.Common.{ℕ, List, false}
use Rattle.graph_state.specs.declared.name.ListName.{ListName}
use Rattle.graph_state.specs.Names.{number}
use Rattle.graph_lists.specs.Named.{list_at}
use Rattle.graph_core.specs.Members.{Walks}
use Rattle.graph_core.specs.Turns.{Fills, ChangesAt}
use Rattle.graph_core.proofs.graph.whole.turn_each.Given as goal

-- the numbers passed, whose cells are changed
abbrev pub invariant-loop-turn : goal.invariant-loop-turn
invariant-loop-turn g l =
    (n : ListName) → Fills l.fn.lists l.fn.cells n l.fn.head
    → (ks : List ℕ) × (Walks (λ (k : ℕ). k) number l.lists.named false (list_at l.lists.named n) ks l._turn l.at × ChangesAt g.T.Turn.turned ks l.fn.cells l.cells)
