-- What looks along the edge list find.
use Rattle.std.specs.Prelude.{◌≡◌, ℕ, Bool, not, ◌&&◌, ◌==◌, List, ◌∷◌, ◌++◌, filter, is_some, Option, option_map}
use Rattle.std.specs.FinMap as map
use Rattle.graph_state.specs.declared.item.EdgeItem.{EdgeItem}
use Rattle.graph_state.specs.State.{GraphState, source, target, shows_edge}
use Rattle.graph_state.specs.Names.{first_of}

-- f stands right behind e in the edge list, or e is the last
abbrev pub IsNextEdge : GraphState → ℕ → Option EdgeItem → Type 0
IsNextEdge s e r = (before behind : List ℕ) → s.edges ≡ before ++ e ∷ behind
    → option_map (λ (f : EdgeItem). f.0.serial) r ≡ first_of behind

-- f is visible, has no reversal, and runs the other way than e between the same nodes
abbrev pub can_pair : GraphState → ℕ → ℕ → Bool
can_pair s e f = shows_edge s f && (not (is_some (map.get s.reversals f))
    && ((source s f == target s e) && (target s f == source s e)))

-- r is the first such edge behind e in the edge list
abbrev pub IsFirstOpposite : GraphState → ℕ → Option EdgeItem → Type 0
IsFirstOpposite s e r = (before behind : List ℕ) → s.edges ≡ before ++ e ∷ behind
    → option_map (λ (f : EdgeItem). f.0.serial) r ≡ first_of (filter (can_pair s e) behind)
