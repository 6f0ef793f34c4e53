-- The parts of an edge among what stands in lists, and nodes without edges.
use Rattle.std.specs.Prelude.{◌≡◌, ℕ, Bool, false, ◌==◌}
use Rattle.graph_state.specs.declared.name.Element.{Element}
use Rattle.graph_state.specs.declared.name.Element.TheVariants.{Node, Edge, End}
use Rattle.graph_state.specs.State.{GraphState}
use Rattle.graph_state.specs.Names.{Has}
use Rattle.graph_state.specs.Edits.{has_end}

-- whether x is a dart of e
abbrev pub is_dart : ℕ → Element → Bool
is_dart e (Node v) = false
is_dart e (Edge k) = false
is_dart e (End d) = d.edge == e

-- whether x is e, or a dart of it
abbrev pub is_part : ℕ → Element → Bool
is_part e (Node v) = false
is_part e (Edge k) = k == e
is_part e (End d) = d.edge == e

-- no edge has an end at v
abbrev pub IsAlone : GraphState → ℕ → Type 0
IsAlone s v = (e : ℕ) → Has e s.edges → has_end s v e ≡ false
