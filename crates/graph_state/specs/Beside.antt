-- What stands next to something in a list.
use Rattle.std.specs.Prelude.{ℕ, Bool, List}
use Rattle.graph_state.specs.declared.kind.Side.{Side}
use Rattle.graph_state.specs.declared.kind.Side.TheVariants.{Before, Behind}
use Rattle.graph_state.specs.State.{GraphState}
use Rattle.graph_state.specs.Names as names
use Rattle.graph_state.specs.Edits.{with_edge_before, with_edge_behind}

-- the list with y right before x, or right behind it
abbrev pub beside : {X : Type 0} → (X → X → Bool) → Side → X → X → List X → List X
beside same Before = names.before same
beside same Behind = names.behind same

-- a new edge from the source of e to w, whose front dart stands next to that of e
abbrev pub with_edge_beside : Side → ℕ → ℕ → List ℕ → GraphState → GraphState
with_edge_beside Before = with_edge_before
with_edge_beside Behind = with_edge_behind
