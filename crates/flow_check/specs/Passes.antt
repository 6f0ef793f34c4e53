-- Private: what the passes of a check keep.
use Rattle.std.specs.Prelude.{◌≡◌, ◌≢◌, ℕ, ◌+◌, ◌*◌, ◌^◌, ◌<◌, ◌≤◌, ℤ, pos, neg_ℤ, ◌≤ℤ◌, Bool, false, List, length, slice_index_or}
use Rattle.graph_defs.specs.declared.net.Net.{Net}
use Rattle.graph_defs.specs.Flow.{outflow_below}
use Rattle.graph_defs.specs.Set.{is_in}
use Rattle.graph_defs.specs.Sum.{at}

-- a sum of k numbers of 64 bits
pub record IsSmall (k : ℕ) (x : ℤ) : Type 0 where
  pub low : neg_ℤ (pos (k * 2 ^ 64)) ≤ℤ x
  pub high : x ≤ℤ pos (k * 2 ^ 64)

-- what leaves each node less what enters it, by the arcs below k
pub record AreBalances (net : Net) (flow : List ℤ) (k : ℕ) (rows : List ℤ) : Type 0 where
  pub long : length rows ≡ net.n
  pub each : (node : ℕ) → node < net.n → at rows node ≡ outflow_below net flow node k
  pub small : (node : ℕ) → node < net.n → IsSmall k (at rows node)

-- as much leaves a node as enters it, unless it is s or t
abbrev pub IsAtRest : ℕ → ℕ → List ℤ → ℕ → Type 0
IsAtRest s t rows node = node ≢ s → node ≢ t → at rows node ≡ pos 0

-- whether a node is marked
abbrev pub marked : List Bool → ℕ → Bool
marked marks node = slice_index_or marks node false

-- just the members of a set are marked; past n nothing is
pub record AreMarks (n : ℕ) (set : List ℕ) (marks : List Bool) : Type 0 where
  pub long : length marks ≡ n
  pub each : (node : ℕ) → marked marks node ≡ is_in set node
