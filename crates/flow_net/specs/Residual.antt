-- The residual network of a flow: each arc forward, as far as its capacity isn't reached, and turned
-- round, as far as it has flow.
use Rattle.std.specs.Prelude.{◌≡◌, ℕ, ◌+◌, ◌-◌, ◌*◌, ◌^◌, ◌<◌, ◌≤◌, ◌==◌, ◌++◌, map, ℤ, pos, ◌+ℤ◌, ◌-ℤ◌, ◌≤ℤ◌, List, [], length, slice_index_or}
use Rattle.std.specs.List.{All}
use Rattle.graph_defs.specs.declared.grouped.Incidence.{Incidence}
use Rattle.graph_defs.specs.declared.net.TheConstants.{ARC_LIMIT}
use Rattle.graph_defs.specs.declared.net.Net.{Net}
use Rattle.graph_defs.specs.Flow.{outflow, AreWithin}
use Rattle.graph_defs.specs.Net.{Ends}
use Rattle.graph_defs.specs.Sum.{at, when}

-- an arc turned round
abbrev pub turned : Ends → Ends
turned ends = (ends.1, ends.0)

-- the darts of a net with m arcs: dart k below m is arc k, and dart m + k is arc k turned round
abbrev pub darts : Net → List Ends
darts net = net.arcs ++ map turned net.arcs

-- so much more may flow along a dart
pub record HasRoom (cap flow : List ℤ) (dart : ℕ) (x : ℤ) : Type 0 where
  pub front : dart < length flow → (at flow dart +ℤ x) ≤ℤ at cap dart
  pub back : length flow ≤ dart → x ≤ℤ at flow (dart - length flow)

-- the row of a node
abbrev pub row_at : List (List Incidence) → ℕ → List Incidence
row_at rows node = slice_index_or rows node []

-- rows of darts that lead to nodes, and a flow within its bounds
pub record IsResidual (rows : List (List Incidence)) (cap flow : List ℤ) : Type 0 where
  pub long : length cap ≡ length flow
  pub few : length flow ≤ ARC_LIMIT
  pub nodes : length rows < 2 ^ 31
  pub within : AreWithin [] cap flow (length flow)
  pub ends : (v : ℕ) → All (λ (entry : Incidence). (entry.end < length rows)
      × (entry.number < length flow + length flow)) (row_at rows v)

-- the outflows are those of another flow, but for an amount more at one node and less at another
abbrev pub IsMoved : Net → List ℤ → List ℤ → ℕ → ℕ → ℤ → Type 0
IsMoved net flow0 flow here there x = (v : ℕ) → outflow net flow v
    ≡ (outflow net flow0 v +ℤ (when (here == v) x -ℤ when (there == v) x))
