-- Private: what a forest of stems keeps, and what it comes to.
use Rattle.std.specs.Prelude.{◌≡◌, ◌⊎◌, ℕ, ◌+◌, ◌<◌, ◌≤◌, Bool, true, not, List, [], ◌∷◌, ◌++◌, length, slice_index, slice_index_or, All}
use Rattle.std.specs.List.{count_by}
use Rattle.graph_defs.specs.declared.net.Net.{Net}
use Rattle.graph_defs.specs.Count.{times}
use Rattle.graph_defs.specs.Matching.{IsOddSetCover, cover_size}
use Rattle.match_core.specs.declared.matching.Blossom.{Blossom}
use Rattle.match_core.specs.Path.{IsFree, Joins, IsStem, IsAugmenting, HasStem}
use Rattle.blossom_lift.specs.Contraction.{inside, IsCycle}
use Rattle.blossom_lift.specs.Passes.{marked}
use Rattle.blossom_search.specs.declared.found.Found.{Found}
use Rattle.blossom_search.specs.declared.found.Found.TheVariants as found
use Rattle.blossom_search.specs.declared.found.Outcome.{Outcome}
use Rattle.blossom_search.specs.declared.found.Outcome.TheVariants as outcome
use Rattle.blossom_search.specs.declared.forest.Forest.{Forest}
use Rattle.blossom_search.specs.declared.stem.Mate.{Mate}
use Rattle.blossom_search.specs.declared.stem.Stem.{Stem}
use Rattle.blossom_search.specs.Growth.{even_count}

-- ---- what is found

-- a cover of the matching's size
pub record IsTight (net : Net) (edges cover : List ℕ) : Type 0 where
  pub covers_all : IsOddSetCover net cover
  pub size : length edges ≡ cover_size cover

abbrev pub IsOutcome : Net → List ℕ → Outcome → Type 0
IsOutcome net edges (outcome.Path path) = IsAugmenting net edges path
IsOutcome net edges (outcome.Cover cover) = IsTight net edges cover

-- a blossom that a stem leads to
pub record IsStemmed (net : Net) (edges : List ℕ) (b : Blossom) : Type 0 where
  pub cycle : IsCycle net edges b.nodes b.edges
  pub stem : HasStem net edges (inside b.nodes) (slice_index b.nodes 0)

abbrev pub IsFound : Net → List ℕ → Found → Type 0
IsFound net edges (found.End outcome) = IsOutcome net edges outcome
IsFound net edges (found.Flower b) = IsStemmed net edges b

-- ---- stems

pub record IsMate (net : Net) (edges : List ℕ) (node : ℕ) (mate : Mate) : Type 0 where
  pub has : 1 ≤ times mate.edge edges
  pub joins : Joins net mate.edge node mate.end

-- a node stands at an even place of a row
pub record IsEvenPlace (nodes : List ℕ) (node half : ℕ) : Type 0 where
  pub within : half + half < length nodes
  pub there : slice_index nodes (half + half) ≡ node

-- the stem of a node alone
abbrev pub stem_at : ℕ → Stem
stem_at node = record { nodes = node ∷ []; edges = []; end = node }

-- the stem that goes on along an arc to a node, and along that one's edge of the matching
abbrev pub stem_beyond : Stem → ℕ → ℕ → Mate → Stem
stem_beyond stem arc node mate = record {
  nodes = stem.nodes ++ node ∷ mate.end ∷ [];
  edges = stem.edges ++ arc ∷ mate.edge ∷ [];
  end = mate.end;
}

-- a stem whose nodes at even places are marked
pub record IsGrown (net : Net) (edges : List ℕ) (evens : List Bool) (s : Stem) : Type 0 where
  pub from : ℕ
  pub rest : List ℕ
  pub whole : s.nodes ≡ from ∷ rest
  pub below : from < net.n
  pub stem : IsStem net edges s.edges from s.end rest
  pub even : (node : ℕ) → 1 ≤ even_count node from rest → marked evens node ≡ true

-- ---- forests

-- a stem that ends at the node waits
pub record Waits (waiting : List Stem) (node : ℕ) : Type 0 where
  pub place : ℕ
  pub stem : Stem
  pub within : place < length waiting
  pub there : (d : Stem) → slice_index_or waiting place d ≡ stem
  pub ends : stem.end ≡ node

-- all neighbours of the node are marked
abbrev pub IsNear : Net → List Bool → ℕ → Type 0
IsNear net odds node = (arc end : ℕ) → Joins net arc node end → marked odds end ≡ true

-- no odd node is free, mates of odd nodes are even, and from each even node but some spare ones a stem
-- waits to go on or all neighbours are odd
pub record AreForest (net : Net) (edges : List ℕ) (IsSpare : ℕ → Type 0) (evens odds : List Bool) (waiting : List Stem) : Type 0 where
  pub even_long : length evens ≡ net.n
  pub odd_long : length odds ≡ net.n
  pub met : (node : ℕ) → marked odds node ≡ true → IsFree net edges node → ⊥
  pub mates : (arc node end : ℕ) → 1 ≤ times arc edges → Joins net arc node end
      → marked odds node ≡ true → marked evens end ≡ true
  pub stems : All (IsGrown net edges evens) waiting
  pub settled : (node : ℕ) → marked evens node ≡ true
      → IsSpare node ⊎ (Waits waiting node ⊎ IsNear net odds node)

abbrev pub IsForest : Net → List ℕ → (ℕ → Type 0) → Forest → Type 0
IsForest net edges IsSpare f = AreForest net edges IsSpare f.evens.items f.odds.items f.waiting.items

-- a forest in which the free nodes below k are even
pub record IsStarted (net : Net) (edges : List ℕ) (k : ℕ) (f : Forest) : Type 0 where
  pub forest : IsForest net edges (λ node. ⊥) f
  pub free : (node : ℕ) → node < k → IsFree net edges node → marked f.evens.items node ≡ true

-- how many nodes aren't even, and how many stems wait
abbrev pub work : Forest → ℕ
work f = count_by not f.evens.items + length f.waiting.items

-- a stem has gone on along some arcs: marks stay, and for each new mark of an even node a stem waits
pub record HasSpread (net : Net) (edges : List ℕ) (stem : Stem) (Along : ℕ → Type 0) (old new : Forest) : Type 0 where
  pub forest : IsForest net edges (λ node. node ≡ stem.end) new
  pub near : (arc end : ℕ) → Along arc → Joins net arc stem.end end
      → marked new.odds.items end ≡ true
  pub evens : (node : ℕ) → marked old.evens.items node ≡ true
      → marked new.evens.items node ≡ true
  pub odds : (node : ℕ) → marked old.odds.items node ≡ true → marked new.odds.items node ≡ true
  pub rest : work new ≡ work old
