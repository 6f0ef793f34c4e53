-- Least weights of walks, and when an answer on shortest paths is right.
use Rattle.std.specs.Prelude.{◌≡◌, ◌⊎◌, ℕ, ◌<◌, ◌≤◌, ◌^◌, ℤ, pos, ◌+ℤ◌, ◌≤ℤ◌, ◌<ℤ◌, List, [], ◌∷◌, ◌++◌, length, map, slice_index, slice_index_or, All, Some, None, IsSome, IfSome}
use Rattle.std.specs.List.Sorted.{IsStrictlyIncreasing}
use Rattle.graph_defs.specs.declared.net.Net.{Net}
use Rattle.graph_defs.specs.declared.shortest.SpAnswer.{SpAnswer}
use Rattle.graph_defs.specs.declared.shortest.Finite.{Finite}
use Rattle.graph_defs.specs.declared.shortest.Low.{Low}
use Rattle.graph_defs.specs.declared.shortest.Seed.{Seed}
use Rattle.graph_defs.specs.declared.shortest.Why.{Why}
use Rattle.graph_defs.specs.declared.shortest.Why.TheVariants as why
use Rattle.graph_defs.specs.declared.verdict.Cond.{Cond}
use Rattle.graph_defs.specs.declared.verdict.Cond.TheVariants as cond
use Rattle.graph_defs.specs.Net.{IsValid, source, target}
use Rattle.graph_defs.specs.Count.{times}
use Rattle.graph_defs.specs.Sum.{at}
use Rattle.graph_defs.specs.Verdict.{AllHold}
use Rattle.graph_defs.specs.Walk.{IsWalk}

-- ---- walks and their weights

-- the sum of the costs of a walk's arcs
abbrev pub weight : List ℤ → List ℕ → ℤ
weight cost [] = pos 0
weight cost (arc ∷ arcs) = at cost arc +ℤ weight cost arcs

-- some walk from s to v has weight d, and none has less
pub record IsLeastWeight (net : Net) (s : ℕ) (cost : List ℤ) (v : ℕ) (d : ℤ) : Type 0 where
  pub some : (walk : List ℕ) × IsWalk net s v walk × (weight cost walk ≡ d)
  pub least : (walk : List ℕ) → IsWalk net s v walk → d ≤ℤ weight cost walk

-- for every integer some walk from s to v weighs less
abbrev pub HasNoLeastWeight : Net → ℕ → List ℤ → ℕ → Type 0
HasNoLeastWeight net s cost v = (z : ℤ) → (walk : List ℕ) × IsWalk net s v walk
    × (weight cost walk <ℤ z)

-- no walk leads from s to v
abbrev pub IsUnreached : Net → ℕ → ℕ → Type 0
IsUnreached net s v = (walk : List ℕ) → IsWalk net s v walk → ⊥

-- ---- what an answer tells

-- what stands at a place of its lists
abbrev pub finite_at : SpAnswer → ℕ → Finite
finite_at a k = slice_index_or a.finite k (record { node = 0; dist = pos 0; pred = None })

abbrev pub low_at : SpAnswer → ℕ → Low
low_at a k = slice_index_or a.low k (record { node = 0; why = why.Arc 0 })

abbrev pub seed_at : SpAnswer → ℕ → Seed
seed_at a k = slice_index_or a.seeds k (record { start = 0; walk = []; cycle = [] })

-- a node is told as finite, as low, or as unreached
abbrev pub IsFinite : SpAnswer → ℕ → Type 0
IsFinite a v = (k : ℕ) × (k < length a.finite) × ((finite_at a k).node ≡ v)

abbrev pub IsLow : SpAnswer → ℕ → Type 0
IsLow a v = (k : ℕ) × (k < length a.low) × ((low_at a k).node ≡ v)

abbrev pub IsToldUnreached : SpAnswer → ℕ → Type 0
IsToldUnreached a v = (k : ℕ) × (k < length a.unreached) × (slice_index a.unreached k ≡ v)

-- its nodes, one behind another
abbrev pub listed : SpAnswer → List ℕ
listed a = map (λ (f : Finite). f.node) a.finite ++ (map (λ (l : Low). l.node) a.low ++ a.unreached)

-- ---- the conditions of a right answer, each at a place

-- numbers below n
abbrev pub AreBelow : ℕ → List ℕ → Type 0
AreBelow n numbers = All (λ number. number < n) numbers

abbrev pub IsReasonBelow : ℕ → ℕ → Why → Type 0
IsReasonBelow arcs seeds (why.Seed seed) = seed < seeds
IsReasonBelow arcs seeds (why.Arc arc) = arc < arcs

pub record IsFiniteInRange (net : Net) (f : Finite) : Type 0 where
  pub node : f.node < net.n
  pub pred : IfSome f.pred (λ arc. arc < length net.arcs)

pub record IsSeedInRange (net : Net) (seed : Seed) : Type 0 where
  pub start : seed.start < net.n
  pub walk : AreBelow (length net.arcs) seed.walk
  pub cycle : AreBelow (length net.arcs) seed.cycle

pub record IsLowInRange (net : Net) (seeds : ℕ) (l : Low) : Type 0 where
  pub node : l.node < net.n
  pub why : IsReasonBelow (length net.arcs) seeds l.why

-- every number of a node, an arc or a seed is in range, and a number of 32 bits tells each seed
pub record IsInRange (net : Net) (a : SpAnswer) : Type 0 where
  pub finite : All (IsFiniteInRange net) a.finite
  pub seeds : All (IsSeedInRange net) a.seeds
  pub low : All (IsLowInRange net (length a.seeds)) a.low
  pub unreached : AreBelow net.n a.unreached
  pub count : length a.seeds ≤ 2 ^ 32

-- a node stands once among the finite, the low and the unreached ones
abbrev pub IsOnce : SpAnswer → ℕ → Type 0
IsOnce a v = times v (listed a) ≡ 1

-- the source is the first finite node, with distance 0, and alone has no arc
pub record IsFirstFinite (s : ℕ) (a : SpAnswer) : Type 0 where
  pub some : 0 < length a.finite
  pub node : (finite_at a 0).node ≡ s
  pub dist : (finite_at a 0).dist ≡ pos 0
  pub pred : (finite_at a 0).pred ≡ None
  pub alone : (k : ℕ) → 0 < k → k < length a.finite → IsSome (finite_at a k).pred

-- or it is low, and no node is finite
pub record IsLowSource (s : ℕ) (a : SpAnswer) : Type 0 where
  pub none : length a.finite ≡ 0
  pub low : IsLow a s

abbrev pub IsSource : ℕ → SpAnswer → Type 0
IsSource s a = IsFirstFinite s a ⊎ IsLowSource s a

-- the finite node at place k is reached by an arc from place j before it, and the arc's cost is the
-- difference
pub record IsTightBy (net : Net) (cost : List ℤ) (a : SpAnswer) (k arc j : ℕ) : Type 0 where
  pub pred : (finite_at a k).pred ≡ Some arc
  pub to : target net arc ≡ (finite_at a k).node
  pub from : source net arc ≡ (finite_at a j).node
  pub before : j < k
  pub dist : (finite_at a k).dist ≡ ((finite_at a j).dist +ℤ at cost arc)

abbrev pub IsTight : Net → List ℤ → SpAnswer → ℕ → Type 0
IsTight net cost a v =
    (k : ℕ) → 0 < k → k < length a.finite → (finite_at a k).node ≡ v → (arc : ℕ) × (j : ℕ)
    × IsTightBy net cost a k arc j

-- a seed is a walk from the source or a finite node to v, and a closed walk of negative weight at v
pub record IsSeedAt (net : Net) (s : ℕ) (cost : List ℤ) (a : SpAnswer) (seed : Seed)
    (v : ℕ) : Type 0 where
  pub start : (seed.start ≡ s) ⊎ IsFinite a seed.start
  pub walk : IsWalk net seed.start v seed.walk
  pub cycle : IsWalk net v v seed.cycle
  pub negative : weight cost seed.cycle <ℤ pos 0

abbrev pub IsSeed : Net → ℕ → List ℤ → SpAnswer → ℕ → Type 0
IsSeed net s cost a i = (v : ℕ) × IsSeedAt net s cost a (seed_at a i) v

-- the low node v at place k lies on the closed walk of its seed, or its arc leads to it from a low
-- node before it
abbrev pub HasReason : Net → SpAnswer → ℕ → ℕ → Why → Type 0
HasReason net a k v (why.Seed i) =
    (t : ℕ) × (t < length (seed_at a i).cycle)
    × (source net (slice_index (seed_at a i).cycle t) ≡ v)
HasReason net a k v (why.Arc arc) =
    (j : ℕ) × (j < k) × (source net arc ≡ (low_at a j).node) × (target net arc ≡ v)

abbrev pub HasItsReason : Net → SpAnswer → ℕ → Type 0
HasItsReason net a v =
    (k : ℕ) → k < length a.low → (low_at a k).node ≡ v → HasReason net a k v (low_at a k).why

-- an arc between finite nodes isn't shorter than the difference of their distances
abbrev pub IsNotShorter : Net → List ℤ → SpAnswer → ℕ → Type 0
IsNotShorter net cost a arc =
    (j k : ℕ) → j < length a.finite → k < length a.finite
    → source net arc ≡ (finite_at a j).node → target net arc ≡ (finite_at a k).node
    → (finite_at a k).dist ≤ℤ ((finite_at a j).dist +ℤ at cost arc)

-- an arc leads from a finite or low node to no unreached one, and from a low one to no finite one
pub record StaysWithin (net : Net) (a : SpAnswer) (arc : ℕ) : Type 0 where
  pub finite : IsFinite a (source net arc) → IsToldUnreached a (target net arc) → ⊥
  pub low : IsLow a (source net arc) → IsToldUnreached a (target net arc) → ⊥
  pub back : IsLow a (source net arc) → IsFinite a (target net arc) → ⊥

-- ---- a right answer

-- the conditions in the order in which a checker tests them, and when each holds at a place
abbrev pub sp_order : List Cond
sp_order =
    cond.Range ∷ cond.Once ∷ cond.Source ∷ cond.TightNode ∷ cond.Seed ∷ cond.Low ∷ cond.Shorter
    ∷ cond.Leaves ∷ []

abbrev pub SpHolds : Net → ℕ → List ℤ → SpAnswer → Cond → ℕ → Type 0
SpHolds net s cost a cond.Range place = IsInRange net a
SpHolds net s cost a cond.Once node = node < net.n → IsOnce a node
SpHolds net s cost a cond.Source node = node ≡ s → IsSource s a
SpHolds net s cost a cond.TightNode node = node < net.n → IsTight net cost a node
SpHolds net s cost a cond.Seed i = i < length a.seeds → IsSeed net s cost a i
SpHolds net s cost a cond.Low node = node < net.n → HasItsReason net a node
SpHolds net s cost a cond.Shorter arc = arc < length net.arcs → IsNotShorter net cost a arc
SpHolds net s cost a cond.Leaves arc = arc < length net.arcs → StaysWithin net a arc
SpHolds net s cost a other place = ⊥

-- all of them hold
pub record IsShortest (net : Net) (s : ℕ) (cost : List ℤ) (a : SpAnswer) : Type 0 where
  pub range : IsInRange net a
  pub once : (v : ℕ) → v < net.n → IsOnce a v
  pub source : IsSource s a
  pub tight : (v : ℕ) → v < net.n → IsTight net cost a v
  pub seeds : (i : ℕ) → i < length a.seeds → IsSeed net s cost a i
  pub low : (v : ℕ) → v < net.n → HasItsReason net a v
  pub shorter : (arc : ℕ) → arc < length net.arcs → IsNotShorter net cost a arc
  pub leaves : (arc : ℕ) → arc < length net.arcs → StaysWithin net a arc

-- an answer to the question: they hold, and the unreached nodes stand in their order
pub record IsSpAnswer (net : Net) (s : ℕ) (cost : List ℤ) (a : SpAnswer) : Type 0 where
  pub is : IsShortest net s cost a
  pub order : IsStrictlyIncreasing a.unreached

-- ---- what it shows, by all walks

pub record GivesLeastWeights (net : Net) (s : ℕ) (cost : List ℤ) (a : SpAnswer) : Type 0 where
  pub finite : (k : ℕ) → k < length a.finite
      → IsLeastWeight net s cost (finite_at a k).node (finite_at a k).dist
  pub low : (v : ℕ) → IsLow a v → HasNoLeastWeight net s cost v
  pub unreached : (v : ℕ) → IsToldUnreached a v → IsUnreached net s v
  pub all : (v : ℕ) → v < net.n → IsFinite a v ⊎ (IsLow a v ⊎ IsToldUnreached a v)

abbrev pub ShortestGivesLeastWeights : Type 0
ShortestGivesLeastWeights =
    (net : Net) (s : ℕ) (cost : List ℤ) (a : SpAnswer) → IsValid net → s < net.n
    → IsShortest net s cost a → GivesLeastWeights net s cost a

-- and so does a checker's yes
abbrev pub YesGivesLeastWeights : Type 0
YesGivesLeastWeights =
    (net : Net) (s : ℕ) (cost : List ℤ) (a : SpAnswer) → IsValid net → s < net.n
    → AllHold (SpHolds net s cost a) sp_order → GivesLeastWeights net s cost a
