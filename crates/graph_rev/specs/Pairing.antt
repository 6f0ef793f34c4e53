-- Pairing the edges of a whole graph.
use Rattle.std.specs.Prelude.{ℕ, Bool, not, ◌&&◌, cond, is_some, List, [], ◌∷◌, filter, length, Option, Some, None}
use Rattle.std.specs.FinMap as map
use Rattle.graph_state.specs.State.{GraphState, shows_edge, visible_edges}
use Rattle.graph_state.specs.Names.{first_of}
use Rattle.graph_state.specs.Edits.{paired}
use Rattle.graph_core.specs.Opposite.{can_pair}

-- e is visible, and has no reversal in the state
abbrev pub lacks_reversal : GraphState → ℕ → Bool
lacks_reversal s e = shows_edge s e && not (is_some (map.get s.reversals e))

-- e is paired with f, where there is one
abbrev pub pair_if : ℕ → Option ℕ → GraphState → GraphState
pair_if e None s = s
pair_if e (Some f) s = paired e f s

-- e, where it is visible and has no reversal, is paired with the first of the later edges that is
-- visible, has no reversal and runs the other way between the same nodes
abbrev pub pair_first : ℕ → List ℕ → GraphState → GraphState
pair_first e later s =
    cond (lacks_reversal s e) (pair_if e (first_of (filter (can_pair s e) later)) s) s

-- the same of each of the edges, in their order
unfoldable pub pair_each : List ℕ → GraphState → GraphState
pair_each [] s = s
pair_each (e ∷ es) s = pair_each es (pair_first e es s)

unfoldable pub map_made : GraphState → GraphState
map_made s = pair_each (visible_edges s) s

-- how many visible edges have no reversal in the state
abbrev pub unpaired_count : GraphState → ℕ
unpaired_count s = length (filter (lacks_reversal s) s.edges)
