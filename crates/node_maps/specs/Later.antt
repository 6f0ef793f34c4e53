-- Later states of a graph, and that an array goes on to serve them.
use Rattle.std.specs.Prelude.{ℕ, ◌<◌, ◌≤◌, ◌⊎◌, List}
use Rattle.graph_state.specs.State.{GraphState}
use Rattle.graph_state.specs.Names.{Has}
use Rattle.node_maps.specs.Contents.{ArrayContents, IsServed}

module _ (live : GraphState → List ℕ) (made : GraphState → ℕ) where
  -- what is live in t was live in s, or has a greater number than any that was given up to s
  abbrev pub IsLater : GraphState → GraphState → Type 0
  IsLater s t = (n : ℕ) → Has n (live t) → Has n (live s) ⊎ (made s < n)

  -- an array that was made up to s, and serves it, serves each later state
  abbrev pub LaterStatesAreServed : Type 0
  LaterStatesAreServed = (a : ArrayContents) (s t : GraphState)
      → a.made ≤ made s → IsServed a (live s) → IsLater s t → IsServed a (live t)
