-- Where a search for an augmenting path ends without one.
use Rattle.std.specs.Prelude.{◌≡◌, ◌≢◌, ℕ, ◌+◌, ◌<◌, ◌≤◌, Bool, true, cond, List, length, slice_index}
use Rattle.graph_defs.specs.declared.net.Net.{Net}
use Rattle.graph_defs.specs.Count.{times}
use Rattle.graph_defs.specs.Net.{IsValid, source, target}
use Rattle.graph_defs.specs.Matching.{IsMatching, IsOddSetCover, cover_size}
use Rattle.match_core.specs.Path.{IsFree, IsStem}

-- two sets of nodes that may overlap: every free node is even, neighbours of even nodes are odd,
-- odd nodes aren't free, and what the matching joins to an odd node is even
pub record AreClosed (net : Net) (edges : List ℕ) (even odd : ℕ → Bool) : Type 0 where
  pub free : (v : ℕ) → v < net.n → IsFree net edges v → even v ≡ true
  pub near_source : (arc : ℕ) → arc < length net.arcs → source net arc ≢ target net arc
      → even (source net arc) ≡ true → odd (target net arc) ≡ true
  pub near_target : (arc : ℕ) → arc < length net.arcs → source net arc ≢ target net arc
      → even (target net arc) ≡ true → odd (source net arc) ≡ true
  pub met : (v : ℕ) → v < net.n → odd v ≡ true → IsFree net edges v → ⊥
  pub mate_source : (arc : ℕ) → 1 ≤ times arc edges
      → odd (source net arc) ≡ true → even (target net arc) ≡ true
  pub mate_target : (arc : ℕ) → 1 ≤ times arc edges
      → odd (target net arc) ≡ true → even (source net arc) ≡ true

-- the label of a node: 0 where it is even alone, 1 where it is odd alone, else 2
abbrev pub label_of : Bool → Bool → ℕ
label_of even odd = cond even (cond odd 2 0) (cond odd 1 2)

-- the labels of all nodes
pub record AreLabels (n : ℕ) (even odd : ℕ → Bool) (labels : List ℕ) : Type 0 where
  pub long : length labels ≡ n
  pub each : (v : ℕ) → v < n → slice_index labels v ≡ label_of (even v) (odd v)

-- ---- the laws

-- the labels of closed sets are a cover of the matching's size
abbrev pub ClosedSetsGiveCovers : Type 0
ClosedSetsGiveCovers =
    (net : Net) (edges : List ℕ) (even odd : ℕ → Bool) (labels : List ℕ) → IsValid net
    → IsMatching net edges → AreClosed net edges even odd → AreLabels net.n even odd labels
    → IsOddSetCover net labels × (length edges ≡ cover_size labels)

-- where a matching and a cover have one size, the end of a stem isn't labelled 1
abbrev pub StemEndsAreNotLabelled1 : Type 0
StemEndsAreNotLabelled1 =
    (net : Net) (edges labels path : List ℕ) (from to : ℕ) (nodes : List ℕ) → IsValid net
    → IsMatching net edges → IsOddSetCover net labels → length edges ≡ cover_size labels
    → IsStem net edges path from to nodes → to < net.n → slice_index labels to ≢ 1

-- ---- augmenting

-- one edge more
pub record IsLarger (net : Net) (edges larger : List ℕ) : Type 0 where
  pub matching : IsMatching net larger
  pub longer : length larger ≡ length edges + 1
