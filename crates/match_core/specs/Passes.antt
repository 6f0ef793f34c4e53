-- Private: what the passes over the edges of a matching keep.
use Rattle.std.specs.Prelude.{◌≡◌, ◌≢◌, ℕ, ◌<◌, ◌≤◌, min, List, length, take, slice_index}
use Rattle.graph_defs.specs.declared.net.Net.{Net}
use Rattle.graph_defs.specs.Count.{times}
use Rattle.graph_defs.specs.Matching.{degree}
use Rattle.graph_defs.specs.Net.{source, target}

-- the least loop among some edges, or the number of arcs where there is none
pub record IsLeastLoop (net : Net) (edges : List ℕ) (least : ℕ) : Type 0 where
  pub bound : least ≤ length net.arcs
  pub there : least < length net.arcs → 1 ≤ times least edges
  pub loop : least < length net.arcs → source net least ≡ target net least
  pub before : (arc : ℕ) → arc < least → 1 ≤ times arc edges → source net arc ≢ target net arc

-- how many of the first k edges have an end at each node, counted up to 2
pub record AreDegrees (net : Net) (edges : List ℕ) (k : ℕ) (degrees : List ℕ) : Type 0 where
  pub long : length degrees ≡ net.n
  pub each : (node : ℕ) → slice_index degrees node ≡ min 2 (degree net node (take k edges))
