-- Private: what holds while the parts of a plain graph come in.
use Rattle.std.specs.Prelude.{◌≡◌, ℕ, ◌+◌, ◌<◌, ◌≤◌, Bool, true, List, [], ◌∷◌, length, Some}
use Rattle.std.specs.FinMap as map
use Rattle.std.specs.List.{AllByRecursion}
use Rattle.graph_defs.specs.declared.net.TheConstants.{NODE_LIMIT, ARC_LIMIT}
use Rattle.item_pool.specs.declared.pool.TheConstants.{MOST_SERIALS}
use Rattle.leda_base.specs.declared.name.ItemName.TheVariants as names
use Rattle.graph_defs.specs.declared.plain.PlainEdge.{PlainEdge}
use Rattle.graph_defs.specs.Plain.{IsPlainEdge, are_paired}
use Rattle.graph_state.specs.State.{GraphState}
use Rattle.graph_state.specs.Names.{Has}
use Rattle.graph_state.specs.Formed.{IsLabel}
use Rattle.graph_state.specs.Refusals.{AreVisible}

abbrev pub AreLabels : List (List ℕ) → Type 0
AreLabels labels = AllByRecursion IsLabel labels

-- the edge e' of place r, where it came before e, runs the other way between the same nodes
abbrev pub LeadsBack : GraphState → ℕ → ℕ → PlainEdge → ℕ → Type 0
LeadsBack s nodes edges e r = (r < ARC_LIMIT) × (edges + r + 1 ≤ s.made_edges
    → Has (edges + r + 1) s.edges
    × (map.get s.ends (edges + r + 1) ≡ Some (nodes + e.to + 1, nodes + e.from + 1)))

-- the edges can come in between nodes that are there, whose numbers begin behind `nodes`
pub record CanBuild (s : GraphState) (nodes : ℕ) (es : List PlainEdge) : Type 0 where
  pub count : ℕ
  pub void : Bool
  pub few : (count ≤ NODE_LIMIT) × (length es ≤ ARC_LIMIT)
  pub given : (nodes ≤ MOST_SERIALS) × (s.made_edges ≤ MOST_SERIALS)
  pub visible : (k : ℕ) → k < count → AreVisible s (names.Node (nodes + k + 1) ∷ [])
  pub edges : AllByRecursion (IsPlainEdge count (length es) void) es
  pub pairs : are_paired es 0 es ≡ true
