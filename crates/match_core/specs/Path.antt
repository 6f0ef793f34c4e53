-- Paths that alternate between edges outside a matching and edges of it, and blossoms.
use Rattle.std.specs.Prelude.{◌≡◌, ◌≢◌, ◌⊎◌, ℕ, ◌<◌, ◌≤◌, Bool, true, List, [], ◌∷◌, length, All}
use Rattle.graph_defs.specs.declared.net.Net.{Net}
use Rattle.graph_defs.specs.Count.{times}
use Rattle.graph_defs.specs.Matching.{degree}
use Rattle.graph_defs.specs.Net.{source, target}

-- a node is free: no edge of the matching ends at it
abbrev pub IsFree : Net → List ℕ → ℕ → Type 0
IsFree net edges node = degree net node edges ≡ 0

-- an arc that isn't a loop has these two ends, whichever it begins at
pub record Joins (net : Net) (arc from to : ℕ) : Type 0 where
  pub among : arc < length net.arcs
  pub apart : from ≢ to
  pub ends : ((source net arc ≡ from) × (target net arc ≡ to))
      ⊎ ((source net arc ≡ to) × (target net arc ≡ from))

-- a path of even length, by its edges in turn and by the nodes behind its first: each second edge
-- is one of the matching; the last node is `to`
abbrev pub IsEvenPath : Net → List ℕ → ℕ → List ℕ → List ℕ → ℕ → Type 0
IsEvenPath net edges from [] [] to = from ≡ to
IsEvenPath net edges from (out ∷ back ∷ path) (odd ∷ even ∷ nodes) to =
    Joins net out from odd × Joins net back odd even × (1 ≤ times back edges)
    × IsEvenPath net edges even path nodes to
IsEvenPath net edges from path nodes to = ⊥

-- the same of odd length, by the nodes between its two ends; its last edge is like its first
abbrev pub IsOddPath : Net → List ℕ → ℕ → List ℕ → List ℕ → ℕ → Type 0
IsOddPath net edges from (last ∷ []) [] to = Joins net last from to
IsOddPath net edges from (out ∷ back ∷ path) (odd ∷ even ∷ nodes) to =
    Joins net out from odd × Joins net back odd even × (1 ≤ times back edges)
    × IsOddPath net edges even path nodes to
IsOddPath net edges from path nodes to = ⊥

-- no node stands twice
abbrev pub IsSimple : List ℕ → Type 0
IsSimple nodes = (node : ℕ) → times node nodes ≤ 1

-- a simple path of even length from a free node. The edges that aren't said to be of the matching
-- are outside it: the first node is free, each later one at an even place has its edge of the
-- matching on the path already, and no node stands twice
pub record IsStem (net : Net) (edges path : List ℕ) (from to : ℕ) (nodes : List ℕ) : Type 0 where
  pub free : IsFree net edges from
  pub even : IsEvenPath net edges from path nodes to
  pub simple : IsSimple (from ∷ nodes)

-- a simple path of odd length between free nodes
pub record IsAugmenting (net : Net) (edges path : List ℕ) : Type 0 where
  pub from : ℕ
  pub to : ℕ
  pub nodes : List ℕ
  pub from_free : IsFree net edges from
  pub to_free : IsFree net edges to
  pub odd : IsOddPath net edges from path nodes to
  pub simple : IsSimple (to ∷ from ∷ nodes)

-- a blossom (J. Edmonds, Paths, trees, and flowers, 1965): a path of odd length from its base round
-- to its base, by the nodes behind the base, of which there are some
pub record IsBlossom (net : Net) (edges path : List ℕ) (base : ℕ) (rest : List ℕ) : Type 0 where
  pub round : IsOddPath net edges base path rest base
  pub simple : IsSimple (base ∷ rest)
  pub some : 1 ≤ length rest

-- a stem leads to the base, and meets the set of nodes nowhere else
pub record HasStem (net : Net) (edges : List ℕ) (within : ℕ → Bool) (base : ℕ) : Type 0 where
  pub from : ℕ
  pub path : List ℕ
  pub nodes : List ℕ
  pub below : from < net.n
  pub stem : IsStem net edges path from base nodes
  pub away : All (λ node. within node ≡ true → node ≡ base) (from ∷ nodes)
