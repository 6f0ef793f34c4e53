-- Private: the answer that a settled tree and low nodes make.
use Rattle.std.specs.Prelude.{◌≡◌, ℕ, ◌+◌, ◌<◌, ℤ, pos, negsuc, ◌+ℤ◌, ⊤, Bool, not, ◌&&◌, List, [], ◌∷◌, length, map, Some, None, FitsSigned}
use Rattle.std.specs.List.{filter, range_with_len}
use Rattle.std.specs.Int.{w64}
use Rattle.graph_defs.specs.declared.shortest.Finite.{Finite}
use Rattle.graph_defs.specs.declared.shortest.Low.{Low}
use Rattle.graph_defs.specs.declared.shortest.Why.{Why}
use Rattle.graph_defs.specs.declared.shortest.Seed as seed
use Rattle.graph_defs.specs.declared.shortest.SpAnswer.{SpAnswer}
use Rattle.graph_defs.specs.declared.shortest.Why.TheVariants.{Seed, Arc}
use Rattle.graph_defs.specs.Sum.{at}
use Rattle.sp_search.specs.declared.finding.Found.{Found}
use Rattle.sp_search.specs.Finding.{found_at, is_marked}
use Rattle.sp_search.specs.Settling.{settled_at}

-- ---- what the arcs of a queue cost

-- a number without its sign
abbrev pub size : ℤ → ℤ
size (pos k) = pos k
size (negsuc k) = pos (k + 1)

abbrev pub price : List ℤ → Why → ℤ
price cost (Seed i) = pos 0
price cost (Arc arc) = size (at cost arc)

abbrev pub paid : List ℤ → List Found → ℤ
paid cost [] = pos 0
paid cost (f ∷ queue) = price cost f.why +ℤ paid cost queue

-- each arc has a cost
abbrev pub KnowCosts : ℕ → List Found → Type 0
KnowCosts m queue =
    (k arc : ℕ) → k < length queue → (found_at queue k).why ≡ Arc arc → arc < m

-- ---- distances

-- the next distance can be told: that of the place before is there, and the sum fits into 64 bits
abbrev pub FitsNext : List ℤ → List Finite → Found → Why → Type 0
FitsNext cost finite f (Seed i) = ⊤
FitsNext cost finite f (Arc arc) =
    (f.before < length finite) × (arc < length cost)
    × FitsSigned w64 ((settled_at finite f.before).dist +ℤ at cost arc)

-- a node where the search began has distance 0, another one that of the place before and the cost
-- of its arc
abbrev pub IsTold : List ℤ → List Finite → Found → Why → Finite → Type 0
IsTold cost finite f (Seed i) x = (x.node ≡ f.node) × (x.dist ≡ pos 0) × (x.pred ≡ None)
IsTold cost finite f (Arc arc) x =
    (x.node ≡ f.node) × (x.dist ≡ ((settled_at finite f.before).dist +ℤ at cost arc))
    × (x.pred ≡ Some arc)

-- the first k of a queue were told
pub record AreTold (cost : List ℤ) (queue : List Found) (k : ℕ)
    (finite : List Finite) : Type 0 where
  pub long : length finite ≡ k
  pub each : (j : ℕ) → j < k
      → IsTold cost finite (found_at queue j) (found_at queue j).why (settled_at finite j)

-- ---- the others

abbrev pub low_of : Found → Low
low_of f = record { node = f.node; why = f.why }

abbrev pub neither : List Bool → List Bool → ℕ → Bool
neither some others v = not (is_marked some v) && not (is_marked others v)

-- an answer of a tree and low nodes
pub record IsWhole (cost : List ℤ) (queue : List Found) (marks : List Bool) (low_queue : List Found)
    (low_marks : List Bool) (seeds : List seed.Seed) (a : SpAnswer) : Type 0 where
  pub told : AreTold cost queue (length queue) a.finite
  pub seeds_are : a.seeds ≡ seeds
  pub low_are : a.low ≡ map low_of low_queue
  pub unreached_are : a.unreached
      ≡ filter (neither marks low_marks) (range_with_len 0 (length marks))
