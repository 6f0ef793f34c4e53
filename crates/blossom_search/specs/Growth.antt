-- One arc more at the end of a stem.
use Rattle.std.specs.Prelude.{◌≡◌, ℕ, ◌+◌, ◌<◌, ◌≤◌, ◌==◌, cond, List, [], ◌∷◌, ◌++◌, length, drop, slice_index}
use Rattle.graph_defs.specs.declared.net.Net.{Net}
use Rattle.graph_defs.specs.Count.{times}
use Rattle.graph_defs.specs.Matching.{IsMatching}
use Rattle.match_core.specs.Path.{IsFree, Joins, IsStem, IsAugmenting, IsBlossom, HasStem}
use Rattle.blossom_lift.specs.Contraction.{inside}

-- how often x stands at the even places of a path by its first node and those behind it
abbrev pub even_count : ℕ → ℕ → List ℕ → ℕ
even_count x first [] = cond (x == first) 1 0
even_count x first (odd ∷ []) = cond (x == first) 1 0
even_count x first (odd ∷ even ∷ nodes) = cond (x == first) 1 0 + even_count x even nodes

-- an arc to a node whose edge of the matching leads on, where neither end of it is at an even
-- place: the stem is longer by both
abbrev pub StemsGrow : Type 0
StemsGrow =
    (net : Net) (edges path : List ℕ) (from to : ℕ) (nodes : List ℕ) (out back odd even : ℕ)
    → IsMatching net edges → IsStem net edges path from to nodes
    → Joins net out to odd → Joins net back odd even → 1 ≤ times back edges
    → even_count odd from nodes ≡ 0 → even_count even from nodes ≡ 0
    → IsStem net edges (path ++ out ∷ back ∷ []) from even (nodes ++ odd ∷ even ∷ [])

-- an arc to a free node at no even place: the path augments
abbrev pub StemsAugment : Type 0
StemsAugment =
    (net : Net) (edges path : List ℕ) (from to : ℕ) (nodes : List ℕ) (out end : ℕ)
    → IsMatching net edges → IsStem net edges path from to nodes
    → Joins net out to end → IsFree net edges end → even_count end from nodes ≡ 0
    → IsAugmenting net edges (path ++ out ∷ [])

-- the nodes from an even place on are a blossom, closed by an arc, and what is before is its stem
pub record IsFlower
    (net : Net) (edges path : List ℕ) (nodes : List ℕ) (out place base : ℕ) : Type 0 where
  pub blossom : IsBlossom net edges (drop place path ++ out ∷ []) base (drop place nodes)
  pub stem : HasStem net edges (inside (base ∷ drop place nodes)) base

-- an arc to the node at an even place
abbrev pub StemsFlower : Type 0
StemsFlower =
    (net : Net) (edges path : List ℕ) (from to : ℕ) (nodes : List ℕ) (out base half : ℕ)
    → IsStem net edges path from to nodes → from < net.n → Joins net out to base
    → half + half ≤ length nodes → slice_index (from ∷ nodes) (half + half) ≡ base
    → IsFlower net edges path nodes out (half + half) base
