-- Valid nets, and the ends of their arcs.
use Rattle.std.specs.Prelude.{ℕ, ◌<◌, ◌≤◌, List, length, All, slice_index_or}
use Rattle.graph_defs.specs.declared.net.TheConstants.{NODE_LIMIT, ARC_LIMIT}
use Rattle.graph_defs.specs.declared.net.Net.{Net}

-- the two ends of an arc, by numbers of nodes
abbrev pub Ends : Type 0
Ends = ℕ × ℕ

-- both ends of each arc are below n
abbrev pub EndsBelow : ℕ → List Ends → Type 0
EndsBelow n arcs = All (λ (arc : Ends). (arc.0 < n) × (arc.1 < n)) arcs

-- there are few enough nodes, and few enough arcs
pub record IsWithinLimits (net : Net) : Type 0 where
  pub nodes : net.n ≤ NODE_LIMIT
  pub arcs : length net.arcs ≤ ARC_LIMIT

-- every end is a node, and there are few enough of both
pub record IsValid (net : Net) : Type 0 where
  pub ends : EndsBelow net.n net.arcs
  pub limits : IsWithinLimits net

-- where arc k begins and where it ends
abbrev pub source : Net → ℕ → ℕ
source net k = (slice_index_or net.arcs k (0, 0)).0

abbrev pub target : Net → ℕ → ℕ
target net k = (slice_index_or net.arcs k (0, 0)).1
