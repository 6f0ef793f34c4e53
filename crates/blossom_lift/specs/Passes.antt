-- Private: what the passes over a blossom, a path and a cover keep.
use Rattle.std.specs.Prelude.{◌≡◌, ◌⊎◌, ℕ, ◌+◌, ◌-◌, ◌%◌, ◌<◌, ◌≤◌, ◌==◌, Bool, true, false, cond, List, length, ◌++◌, take, drop, reverse, slice_index, slice_index_or}
use Rattle.graph_defs.specs.declared.net.Net.{Net}
use Rattle.graph_defs.specs.Count.{times}
use Rattle.graph_defs.specs.Matching.{is_end}
use Rattle.graph_defs.specs.Net.{Ends, source, target}
use Rattle.match_core.specs.declared.matching.Blossom.{Blossom}
use Rattle.blossom_lift.specs.Contraction.{inside}

-- whether a place is marked
abbrev pub marked : List Bool → ℕ → Bool
marked marks place = slice_index_or marks place false

-- of the places below n those are marked that are among some numbers
pub record AreMarks (numbers : List ℕ) (n : ℕ) (marks : List Bool) : Type 0 where
  pub long : length marks ≡ n
  pub each : (place : ℕ) → place < n → marked marks place ≡ inside numbers place

abbrev pub read_ends : List ℕ → Ends → Ends
read_ends images arc = (slice_index images arc.0, slice_index images arc.1)

-- the hub is the first node: the second edge doesn't end there
pub record IsFirst (net : Net) (hub : ℕ) (path : List ℕ) : Type 0 where
  pub some : 1 ≤ length path
  pub leaves : is_end net hub (slice_index path 0) ≡ true
  pub alone : 1 < length path → is_end net hub (slice_index path 1) ≡ false

-- the hub is the node behind two edges at an even place, of which the second alone ends there
pub record IsBehind (net : Net) (hub : ℕ) (path : List ℕ) (half : ℕ) : Type 0 where
  pub within : half + half + 1 < length path
  pub comes : is_end net hub (slice_index path (half + half + 1)) ≡ true
  pub new : is_end net hub (slice_index path (half + half)) ≡ false

-- the hub is the node at an even place of the path
abbrev pub IsHubAt : Net → ℕ → List ℕ → ℕ → Type 0
IsHubAt net hub path place = ((place ≡ 0) × IsFirst net hub path)
    ⊎ ((half : ℕ) × (place ≡ half + half + 2) × IsBehind net hub path half)

-- the edges from the base to the node at a place of the blossom, that way round on which there is
-- an even number of them
abbrev pub way_to : List ℕ → ℕ → List ℕ
way_to edges at = cond (at % 2 == 0) (take at edges) (take (length edges - at) (reverse edges))

-- a place of a blossom's node at which an arc ends
pub record IsEndPlace (nodes : List ℕ) (from to place : ℕ) : Type 0 where
  pub within : place < length nodes
  pub ends : (slice_index nodes place ≡ from) ⊎ (slice_index nodes place ≡ to)

-- the way from the base to a node of the blossom at which the edge behind a place ends, put into a
-- path at that place
pub record IsWithWay
    (net : Net) (b : Blossom) (path : List ℕ) (place : ℕ) (longer : List ℕ) : Type 0 where
  pub at : ℕ
  pub end_place : IsEndPlace b.nodes (source net (slice_index path place))
      (target net (slice_index path place)) at
  pub whole : longer ≡ take place path ++ (way_to b.edges at ++ drop place path)

-- a label for the nodes of a blossom: the hub's own, or one that no node has where that is 0
pub record IsFitLabel (cover : List ℕ) (hub label : ℕ) : Type 0 where
  pub later : 2 ≤ label
  pub fits : (slice_index cover hub ≡ label)
      ⊎ ((slice_index cover hub ≡ 0) × (times label cover ≡ 0))

-- the label of a node with this image
abbrev pub label_of : List ℕ → ℕ → ℕ → ℕ → ℕ
label_of cover hub label image = cond (image == hub) label (slice_index cover image)
