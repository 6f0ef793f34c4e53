-- Feasible flows, their costs, and what shows that one is cheapest or that there is none.
use Rattle.std.specs.Prelude.{◌≡◌, ℕ, ◌<◌, ℤ, pos, ◌+ℤ◌, ◌-ℤ◌, ◌*ℤ◌, ◌≤ℤ◌, ◌<ℤ◌, Bool, List, [], length}
use Rattle.graph_defs.specs.declared.net.Net.{Net}
use Rattle.graph_defs.specs.Net.{IsValid, source, target}
use Rattle.graph_defs.specs.Set.{is_in, leaves, enters, IsNodeSet}
use Rattle.graph_defs.specs.Sum.{sum_below, at, when}
use Rattle.graph_defs.specs.Flow.{outflow, AreWithin, IsFlow}

-- within lower and upper bounds, and from each node flows its supply
pub record IsFeasible (net : Net) (low high supply flow : List ℤ) : Type 0 where
  pub long : length flow ≡ length net.arcs
  pub bounds : AreWithin low high flow (length net.arcs)
  pub balance : (node : ℕ) → node < net.n → outflow net flow node ≡ at supply node

-- the sum of cost times flow, over the arcs below k and over all
abbrev pub cost_below : List ℤ → List ℤ → ℕ → ℤ
cost_below cost flow k = sum_below (λ arc. at cost arc *ℤ at flow arc) k

abbrev pub cost_of : Net → List ℤ → List ℤ → ℤ
cost_of net cost flow = cost_below cost flow (length net.arcs)

-- the reduced cost of an arc under potentials
abbrev pub reduced : Net → List ℤ → List ℤ → ℕ → ℤ
reduced net cost pot arc = at cost arc +ℤ at pot (source net arc) -ℤ at pot (target net arc)

-- it is at least 0 where the flow is below its upper bound, and at most 0 where it is above its
-- lower one
abbrev pub IsReducedAt : Net → List ℤ → List ℤ → List ℤ → List ℤ → List ℤ → ℕ → Type 0
IsReducedAt net low high cost flow pot arc =
    (at flow arc <ℤ at high arc → pos 0 ≤ℤ reduced net cost pot arc)
    × (at low arc <ℤ at flow arc → reduced net cost pot arc ≤ℤ pos 0)

abbrev pub AreReduced : Net → List ℤ → List ℤ → List ℤ → List ℤ → List ℤ → ℕ → Type 0
AreReduced net low high cost flow pot k = (arc : ℕ) → arc < k
    → IsReducedAt net low high cost flow pot arc

pub record IsReduced (net : Net) (low high cost flow pot : List ℤ) : Type 0 where
  pub nodes : length pot ≡ net.n
  pub arcs : AreReduced net low high cost flow pot (length net.arcs)

-- the supply of a set; the lower bounds of the arcs that enter it less the upper bounds of those
-- that leave it
abbrev pub supply_of : Net → List ℤ → (ℕ → Bool) → ℤ
supply_of net supply inside = sum_below (λ node. when (inside node) (at supply node)) net.n

abbrev pub pressure_below : Net → List ℤ → List ℤ → (ℕ → Bool) → ℕ → ℤ
pressure_below net low high inside k =
    sum_below (λ arc. when (enters net inside arc) (at low arc)
    -ℤ when (leaves net inside arc) (at high arc)) k

-- what of a set's supply and of what has to enter it can't leave it
abbrev pub surplus : Net → List ℤ → List ℤ → List ℤ → (ℕ → Bool) → ℤ
surplus net low high supply inside =
    supply_of net supply inside +ℤ pressure_below net low high inside (length net.arcs)

-- a set with a surplus excludes every feasible flow
pub record IsExcluding (net : Net) (low high supply : List ℤ) (set : List ℕ) : Type 0 where
  pub set_is : IsNodeSet net.n set
  pub over : pos 0 <ℤ surplus net low high supply (is_in set)

-- a feasible flow with potentials that show that none costs less
pub record IsCheapest (net : Net) (low high cost supply flow pot : List ℤ) : Type 0 where
  pub flow_is : IsFeasible net low high supply flow
  pub reduced_is : IsReduced net low high cost flow pot

-- ---- the laws

abbrev pub ReducedIsCheapest : Type 0
ReducedIsCheapest =
    (net : Net) (low high cost supply flow other pot : List ℤ) → IsValid net
    → IsFeasible net low high supply flow → IsReduced net low high cost flow pot
    → IsFeasible net low high supply other → cost_of net cost flow ≤ℤ cost_of net cost other

abbrev pub ReducedIsCheapestOfItsValue : Type 0
ReducedIsCheapestOfItsValue =
    (net : Net) (s t : ℕ) (cap cost flow other pot : List ℤ) → IsValid net → s < net.n
    → IsFlow net s t cap flow → IsReduced net [] cap cost flow pot → IsFlow net s t cap other
    → outflow net flow s ≡ outflow net other s → cost_of net cost flow ≤ℤ cost_of net cost other

abbrev pub SetExcludesFlows : Type 0
SetExcludesFlows =
    (net : Net) (low high supply flow : List ℤ) (set : List ℕ) → IsValid net
    → IsExcluding net low high supply set → IsFeasible net low high supply flow → ⊥
