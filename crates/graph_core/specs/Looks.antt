-- What looks at neighbours answer.
use Rattle.std.specs.Prelude.{◌≡◌, ℕ, Bool, false, List, [], ◌∷◌, ◌++◌, Option, Some, option_map}
use Rattle.std.specs.FinSet as set
use Rattle.leda_base.specs.declared.name.ItemName.{ItemName}
use Rattle.leda_base.specs.declared.name.ItemName.TheVariants as names
use Rattle.graph_defs.specs.declared.dart.Dart.{Dart}
use Rattle.graph_state.specs.declared.item.EdgeItem.{EdgeItem}
use Rattle.graph_state.specs.State.{GraphState, front, source, visible_out}
use Rattle.graph_state.specs.Names.{first_of, last_of}

-- the item is the edge of the dart, or there is neither
abbrev pub IsEdgeOf : Option EdgeItem → Option Dart → Type 0
IsEdgeOf r o = option_map (λ (e : EdgeItem). e.0.serial) r ≡ option_map (λ (d : Dart). d.edge) o

-- the front dart of e stands between the two lists of darts, in the visible out list of its source
abbrev pub StandsBetween : GraphState → ℕ → List Dart → List Dart → Type 0
StandsBetween s e before behind = visible_out s (source s e) ≡ before ++ front e ∷ behind

-- the neighbours of the front dart of e in that list
abbrev pub IsBehind : GraphState → ℕ → Option EdgeItem → Type 0
IsBehind s e r = (before behind : List Dart) → StandsBetween s e before behind
    → IsEdgeOf r (first_of behind)

abbrev pub IsBefore : GraphState → ℕ → Option EdgeItem → Type 0
IsBefore s e r = (before behind : List Dart) → StandsBetween s e before behind
    → IsEdgeOf r (last_of before)

-- the same round the ends: behind the last stands the first
abbrev pub IsCyclicBehind : GraphState → ℕ → EdgeItem → Type 0
IsCyclicBehind s e r = (before behind : List Dart) → StandsBetween s e before behind
    → IsEdgeOf (Some r) (first_of (behind ++ before ++ front e ∷ []))

abbrev pub IsCyclicBefore : GraphState → ℕ → EdgeItem → Type 0
IsCyclicBefore s e r = (before behind : List Dart) → StandsBetween s e before behind
    → IsEdgeOf (Some r) (last_of (front e ∷ behind ++ before))

-- whether a node or an edge is hidden by itself
abbrev pub is_marked : GraphState → ItemName → Bool
is_marked s (names.Node v) = set.contains s.hidden_nodes v
is_marked s (names.Edge e) = set.contains s.hidden_edges e
is_marked s (names.Cell c) = false
