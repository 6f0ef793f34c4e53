-- Private: low nodes, seeds, and the walks that lead to closed walks.
use Rattle.std.specs.Prelude.{◌≡◌, ℕ, ◌<◌, ◌≤◌, ℤ, pos, ◌<ℤ◌, Bool, true, List, [], ◌∷◌, ◌++◌, length, slice_index, slice_index_or}
use Rattle.graph_defs.specs.declared.net.Net.{Net}
use Rattle.graph_defs.specs.declared.shortest.Seed.{Seed}
use Rattle.graph_defs.specs.declared.shortest.Why.TheVariants as why
use Rattle.graph_defs.specs.Net.{source}
use Rattle.graph_defs.specs.Shortest.{weight}
use Rattle.graph_defs.specs.Walk.{IsWalk}
use Rattle.sp_search.specs.declared.finding.Found.{Found}
use Rattle.sp_search.specs.Finding.{found_at, is_marked, IsFinding, HasGrown, IsClosedAlong}

-- ---- walks back to where the search began

-- each node that an arc leads to stands behind another
abbrev pub StandBehind : List Found → Type 0
StandBehind queue =
    (k arc : ℕ) → k < length queue → (found_at queue k).why ≡ why.Arc arc
    → (found_at queue k).before < k

abbrev pub IsThere : List Found → ℕ → Type 0
IsThere queue v = (k : ℕ) × (k < length queue) × ((found_at queue k).node ≡ v)

abbrev pub IsPlaceOf : List Found → ℕ → ℕ → Type 0
IsPlaceOf queue v k = (k < length queue) × ((found_at queue k).node ≡ v)

-- the search began at one node
abbrev pub BeginsAt : List Found → ℕ → Type 0
BeginsAt queue s =
    (k i : ℕ) → k < length queue → (found_at queue k).why ≡ why.Seed i → (found_at queue k).node ≡ s

abbrev pub IsBeginning : List Found → ℕ → Type 0
IsBeginning queue k = (i : ℕ) × ((found_at queue k).why ≡ why.Seed i)

-- all nodes to which open arcs lead from s
pub record IsReachOf (net : Net) (opened : List Bool) (s : ℕ) (queue : List Found)
    (marks : List Bool) : Type 0 where
  pub is : IsFinding net opened queue marks
  pub closed : IsClosedAlong net opened marks
  pub begins : BeginsAt queue s
  pub has : is_marked marks s ≡ true

-- some node, with the walks to it
abbrev pub CanReach : Net → ℕ → List Found → List Bool → ℕ → Type 0
CanReach net s queue marks v =
    (opened : List Bool) × IsReachOf net opened s queue marks × (is_marked marks v ≡ true)

-- ---- seeds

-- where a closed walk begins
abbrev pub begin_of : Net → List ℕ → ℕ
begin_of net cycle = source net (slice_index cycle 0)

-- a seed of this closed walk
pub record IsLed (net : Net) (s : ℕ) (cycle : List ℕ) (seed : Seed) : Type 0 where
  pub start_is : seed.start ≡ s
  pub walk : IsWalk net s (begin_of net cycle) seed.walk
  pub cycle_is : seed.cycle ≡ cycle

abbrev pub seed_of : List Seed → ℕ → Seed
seed_of seeds i = slice_index_or seeds i (record { start = 0; walk = []; cycle = [] })

-- a walk from s, and a closed walk of negative weight at its end
pub record IsSeedOf (net : Net) (s : ℕ) (cost : List ℤ) (seed : Seed) : Type 0 where
  pub start_is : seed.start ≡ s
  pub node : ℕ
  pub walk : IsWalk net s node seed.walk
  pub cycle : IsWalk net node node seed.cycle
  pub negative : weight cost seed.cycle <ℤ pos 0

abbrev pub IsOnCycle : Net → List ℕ → ℕ → Type 0
IsOnCycle net cycle v =
    (t : ℕ) × (t < length cycle) × (source net (slice_index cycle t) ≡ v)

-- the nodes of a seed's closed walk were found as far as its arc j, and what is new was found so
pub record HasMet (net : Net) (opened : List Bool) (number : ℕ) (cycle : List ℕ) (j : ℕ)
    (queue : List Found) (marks : List Bool) (queue' : List Found)
    (marks' : List Bool) : Type 0 where
  pub is : IsFinding net opened queue' marks'
  pub longer : length queue ≤ length queue'
  pub same : (k : ℕ) → k < length queue → found_at queue' k ≡ found_at queue k
  pub made : (k : ℕ) → length queue ≤ k → k < length queue'
      → ((found_at queue' k).why ≡ why.Seed number) × IsOnCycle net cycle (found_at queue' k).node
  pub done : (t : ℕ) → t < j → is_marked marks' (source net (slice_index cycle t)) ≡ true

-- the low nodes are closed under arcs; each lies on the closed walk of its seed, or an arc leads
-- there from another
pub record AreLow (net : Net) (s : ℕ) (cost : List ℤ) (opened : List Bool) (queue : List Found)
    (marks : List Bool) (seeds : List Seed) : Type 0 where
  pub is : IsFinding net opened queue marks
  pub closed : IsClosedAlong net opened marks
  pub sound : (i : ℕ) → i < length seeds → IsSeedOf net s cost (seed_of seeds i)
  pub starts : (k i : ℕ) → k < length queue → (found_at queue k).why ≡ why.Seed i
      → (i < length seeds) × IsOnCycle net (seed_of seeds i).cycle (found_at queue k).node
  pub many : length seeds ≤ length queue

-- a seed came to the low nodes
pub record HasMore (net : Net) (opened : List Bool) (seed : Seed) (queue : List Found)
    (marks : List Bool) (seeds : List Seed) (queue' : List Found) (marks' : List Bool)
    (seeds' : List Seed) : Type 0 where
  pub met_queue : List Found
  pub met_marks : List Bool
  pub met : HasMet net opened (length seeds) seed.cycle (length seed.cycle) queue marks
      met_queue met_marks
  pub grown : HasGrown met_queue met_marks queue' marks'
  pub is : IsFinding net opened queue' marks'
  pub closed : IsClosedAlong net opened marks'
  pub seeds_are : seeds' ≡ seeds ++ seed ∷ []
