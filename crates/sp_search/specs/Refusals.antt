-- When there is no answer on shortest paths.
use Rattle.std.specs.Prelude.{ℕ, ◌<◌, ℤ, pos, ◌≤ℤ◌, ◌<ℤ◌, List, length, All}
use Rattle.graph_defs.specs.Sum.{at, sum_below}
use Rattle.sp_search.specs.declared.refusals.SpRefusal.{SpRefusal}
use Rattle.sp_search.specs.declared.refusals.SpRefusal.TheVariants.{Negative, Bound, NoMemory}
use Rattle.sp_search.specs.Telling.{size}

-- the sum of the costs without their signs
abbrev pub sizes : List ℤ → ℤ
sizes cost = sum_below (λ arc. size (at cost arc)) (length cost)

-- a search that takes costs of any sign is refused where their sum is too large, and else only for
-- want of memory
abbrev pub MayRefuse : List ℤ → SpRefusal → Type 0
MayRefuse cost (Negative arc) = ⊥
MayRefuse cost Bound = pos 4611686018427387903 <ℤ sizes cost
MayRefuse cost NoMemory = sizes cost ≤ℤ pos 4611686018427387903

-- the first arc whose cost is below 0
pub record IsFirstNegative (cost : List ℤ) (arc : ℕ) : Type 0 where
  pub known : arc < length cost
  pub here : at cost arc <ℤ pos 0
  pub before : (j : ℕ) → j < arc → pos 0 ≤ℤ at cost j

-- a search that takes no costs below 0 names the first one, and else is refused as the other is
abbrev pub AsksLow : List ℤ → SpRefusal → Type 0
AsksLow cost (Negative arc) = IsFirstNegative cost arc
AsksLow cost Bound = All (λ c. pos 0 ≤ℤ c) cost × (pos 4611686018427387903 <ℤ sizes cost)
AsksLow cost NoMemory = All (λ c. pos 0 ≤ℤ c) cost × (sizes cost ≤ℤ pos 4611686018427387903)
