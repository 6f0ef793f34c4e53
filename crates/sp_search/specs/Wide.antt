-- Nets that may be larger than a valid one.
use Rattle.std.specs.Prelude.{ℕ, ◌≤◌, List, length}
use Rattle.graph_defs.specs.declared.net.Net.{Net}
use Rattle.graph_defs.specs.Net.{Ends, EndsBelow}
use Rattle.sp_search.specs.declared.any_costs.TheConstants.{WIDE_NODE_LIMIT, WIDE_ARC_LIMIT}

-- the net of n nodes that has these arcs
abbrev pub net_of : ℕ → List Ends → Net
net_of n arcs = record { n = n; arcs = arcs }

-- there are few enough nodes, and few enough arcs, for a search with costs of any sign
pub record IsWithinWideLimits (net : Net) : Type 0 where
  pub nodes : net.n ≤ WIDE_NODE_LIMIT
  pub arcs : length net.arcs ≤ WIDE_ARC_LIMIT

-- every end is a node, and there are few enough of both
pub record IsWide (net : Net) : Type 0 where
  pub ends : EndsBelow net.n net.arcs
  pub limits : IsWithinWideLimits net
