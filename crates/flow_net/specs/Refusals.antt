-- When there is no answer on maximum flows.
use Rattle.std.specs.Prelude.{◌≡◌, ◌≢◌, ℕ, ◌<◌, ℤ, pos, ◌≤ℤ◌, ◌<ℤ◌, List, length, All}
use Rattle.graph_defs.specs.Sum.{at, sum_below}
use Rattle.flow_net.specs.declared.refusals.FlowRefusal.{FlowRefusal}
use Rattle.flow_net.specs.declared.refusals.FlowRefusal.TheVariants.{Same, Negative, Bound, NoMemory}

-- the sum of the capacities
abbrev pub sum_of : List ℤ → ℤ
sum_of cap = sum_below (at cap) (length cap)

-- the first arc whose capacity is below 0
pub record IsFirstNegative (cap : List ℤ) (arc : ℕ) : Type 0 where
  pub known : arc < length cap
  pub here : at cap arc <ℤ pos 0
  pub before : (j : ℕ) → j < arc → pos 0 ≤ℤ at cap j

-- no capacity is below 0
abbrev pub AreLow : List ℤ → Type 0
AreLow cap = All (λ c. pos 0 ≤ℤ c) cap

-- nothing is against a maximum flow
abbrev pub Allows : ℕ → ℕ → List ℤ → Type 0
Allows s t cap = (s ≢ t) × AreLow cap × (sum_of cap ≤ℤ pos 4611686018427387903)

-- why there is none, in the order in which it is asked
abbrev pub Refuses : ℕ → ℕ → List ℤ → FlowRefusal → Type 0
Refuses s t cap Same = s ≡ t
Refuses s t cap (Negative arc) = (s ≢ t) × IsFirstNegative cap arc
Refuses s t cap Bound = (s ≢ t) × AreLow cap × (pos 4611686018427387903 <ℤ sum_of cap)
Refuses s t cap NoMemory = (s ≢ t) × AreLow cap × (sum_of cap ≤ℤ pos 4611686018427387903)
