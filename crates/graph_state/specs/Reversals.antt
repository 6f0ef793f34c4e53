-- Edges that run between the same nodes in opposite directions, and reversals that show.
use Rattle.std.specs.Prelude.{◌≡◌, ℕ, cond, Option, Some, None}
use Rattle.std.specs.FinMap as map
use Rattle.graph_state.specs.State.{GraphState, source, target, shows_edge}

-- e and f are two edges, and each begins where the other ends
abbrev pub AreOpposite : GraphState → ℕ → ℕ → Type 0
AreOpposite s e f = (e ≡ f → ⊥) × ((source s e ≡ target s f) × (target s e ≡ source s f))

-- the edge, where there is one and it shows
abbrev pub if_shown : GraphState → Option ℕ → Option ℕ
if_shown s None = None
if_shown s (Some f) = cond (shows_edge s f) (Some f) None

-- the reversal of e, where it has one that shows
abbrev pub visible_reversal : GraphState → ℕ → Option ℕ
visible_reversal s e = if_shown s (map.get s.reversals e)
