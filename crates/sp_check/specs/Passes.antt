-- Private: what the passes of a check keep.
use Rattle.std.specs.Prelude.{◌≡◌, ℕ, ◌<◌, ◌≤◌, min, Bool, true, false, ℤ, List, length, take, slice_index, slice_index_or}
use Rattle.graph_defs.specs.declared.net.Net.{Net}
use Rattle.graph_defs.specs.declared.shortest.SpAnswer.{SpAnswer}
use Rattle.graph_defs.specs.declared.shortest.Why.TheVariants as why
use Rattle.graph_defs.specs.Count.{times}
use Rattle.graph_defs.specs.Net.{IsValid, source}
use Rattle.graph_defs.specs.Shortest.{listed, finite_at, low_at, seed_at, IsToldUnreached, IsInRange, IsOnce}
use Rattle.sp_check.specs.declared.kind.Kind.{Kind}
use Rattle.sp_check.specs.declared.kind.Kind.TheVariants as kinds

-- how often each node stands among the first k, counted up to 2
pub record AreCounts (n : ℕ) (nodes : List ℕ) (k : ℕ) (counts : List ℕ) : Type 0 where
  pub long : length counts ≡ n
  pub each : (v : ℕ) → v < n → slice_index counts v ≡ min 2 (times v (take k nodes))

-- the first k nodes of the list have their places
pub record HavePlaces (n : ℕ) (nodes : List ℕ) (k : ℕ) (places : List ℕ) : Type 0 where
  pub long : length places ≡ n
  pub stand : (i : ℕ) → i < k → slice_index places (slice_index nodes i) ≡ i

-- what a pass goes over: an answer in range in which each node stands once, with the place of each
-- node
pub record IsPlaced (net : Net) (cost : List ℤ) (a : SpAnswer) (places : List ℕ) : Type 0 where
  pub valid : IsValid net
  pub costs : length cost ≡ length net.arcs
  pub range : IsInRange net a
  pub once : (v : ℕ) → v < net.n → IsOnce a v
  pub stand : HavePlaces net.n (listed a) (length (listed a)) places

-- a node is low because of a seed
abbrev pub Wants : SpAnswer → ℕ → ℕ → Type 0
Wants a v i = (k : ℕ) × (k < length a.low) × ((low_at a k).node ≡ v)
    × ((low_at a k).why ≡ why.Seed i)

-- the node at which an arc of a seed's closed walk begins
abbrev pub on_cycle : Net → SpAnswer → ℕ → ℕ → ℕ
on_cycle net a i t = source net (slice_index (seed_at a i).cycle t)

-- marked are the nodes that lie on the closed walks of their seeds, as far as the seeds before i
-- and the first t arcs of seed i show
pub record AreMarked (net : Net) (a : SpAnswer) (i t : ℕ) (marks : List Bool) : Type 0 where
  pub long : length marks ≡ net.n
  pub sound : (v : ℕ) → slice_index_or marks v false ≡ true
      → (j : ℕ) × (u : ℕ) × Wants a v j × (u < length (seed_at a j).cycle)
      × (on_cycle net a j u ≡ v)
  pub before : (j u : ℕ) → j < i → u < length (seed_at a j).cycle → Wants a (on_cycle net a j u) j
      → slice_index_or marks (on_cycle net a j u) false ≡ true
  pub here : (u : ℕ) → u < t → Wants a (on_cycle net a i u) i
      → slice_index_or marks (on_cycle net a i u) false ≡ true

-- a node is told as finite or as low at a place of that list, or as unreached
abbrev pub IsKind : SpAnswer → ℕ → Kind → Type 0
IsKind a v (kinds.Finite k) = (k < length a.finite) × ((finite_at a k).node ≡ v)
IsKind a v (kinds.Low k) = (k < length a.low) × ((low_at a k).node ≡ v)
IsKind a v kinds.Unreached = IsToldUnreached a v
