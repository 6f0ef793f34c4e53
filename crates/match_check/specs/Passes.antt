-- Private: what the pass over the labels of a cover keeps.
use Rattle.std.specs.Prelude.{◌≡◌, ℕ, ◌+◌, ◌%◌, ◌<◌, ◌≤◌, Bool, false, cond, nat_lt, List, length, take, slice_index, slice_index_or}
use Rattle.graph_defs.specs.Count.{times}
use Rattle.graph_defs.specs.Matching.{greatest, halves}

-- what a node with a label counts for, where there was or wasn't an odd number of it before: each
-- one labelled 1 counts, and each second one of a later label
abbrev pub share : ℕ → Bool → ℕ
share label was = cond (nat_lt label 2) label (cond was 1 0)

-- the size by the first k labels, and whether there was an odd number of each label
pub record AreCounted (labels : List ℕ) (k size : ℕ) (odd : List Bool) : Type 0 where
  pub long : length odd ≡ greatest labels + 1
  pub total : size ≡ times 1 (take k labels) + halves (take k labels) (greatest labels)
  pub small : size ≤ k
  pub parity : (label : ℕ)
      → cond (slice_index_or odd label false) 1 0 ≡ times label (take k labels) % 2

-- the same of sorted labels, of which only the last one can come again
pub record AreRuns (sorted : List ℕ) (k size last : ℕ) (odd : Bool) : Type 0 where
  pub total : size ≡ times 1 (take k sorted) + halves (take k sorted) (greatest sorted)
  pub small : size ≤ k
  pub parity : cond odd 1 0 ≡ times last (take k sorted) % 2
  pub later : (label : ℕ) → last < label → times label (take k sorted) ≡ 0
  pub rest : (i : ℕ) → k ≤ i → i < length sorted → last ≤ slice_index sorted i
