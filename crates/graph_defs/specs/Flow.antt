-- Flows, their values, and cuts of the same capacity.
use Rattle.std.specs.Prelude.{◌≡◌, ℕ, ◌<◌, ◌≢◌, ◌==◌, ℤ, pos, ◌-ℤ◌, ◌≤ℤ◌, Bool, true, false, List, [], ◌∷◌, length, All}
use Rattle.graph_defs.specs.declared.net.Net.{Net}
use Rattle.graph_defs.specs.declared.flow.FlowAnswer.{FlowAnswer}
use Rattle.graph_defs.specs.declared.verdict.Cond.{Cond}
use Rattle.graph_defs.specs.declared.verdict.Cond.TheVariants as cond
use Rattle.graph_defs.specs.Net.{IsValid, source, target}
use Rattle.graph_defs.specs.Set.{is_in, leaves, IsCut}
use Rattle.graph_defs.specs.Sum.{sum_below, at, when}
use Rattle.graph_defs.specs.Verdict.{AllHold}

-- what an arc takes from a node: its flow at its source, less its flow at its target, so nothing at
-- a loop
abbrev pub share : Net → List ℤ → ℕ → ℕ → ℤ
share net flow node arc =
    when (source net arc == node) (at flow arc) -ℤ when (target net arc == node) (at flow arc)

-- what leaves a node less what enters it, by the arcs below k and by all
abbrev pub outflow_below : Net → List ℤ → ℕ → ℕ → ℤ
outflow_below net flow node k = sum_below (share net flow node) k

abbrev pub outflow : Net → List ℤ → ℕ → ℤ
outflow net flow node = outflow_below net flow node (length net.arcs)

-- the flows of the arcs below k are within their bounds
abbrev pub AreWithin : List ℤ → List ℤ → List ℤ → ℕ → Type 0
AreWithin low high flow k = (arc : ℕ) → arc < k → (at low arc ≤ℤ at flow arc)
    × (at flow arc ≤ℤ at high arc)

-- a flow from s to t: from 0 to the capacity on each arc, and at every other node as much enters as
-- leaves
pub record IsFlow (net : Net) (s t : ℕ) (cap flow : List ℤ) : Type 0 where
  pub long : length flow ≡ length net.arcs
  pub bounds : AreWithin [] cap flow (length net.arcs)
  pub balance : (node : ℕ) → node < net.n → node ≢ s → node ≢ t → outflow net flow node ≡ pos 0

-- the sum of the capacities of the arcs that leave a set, of those below k and of all
abbrev pub capacity_below : Net → List ℤ → (ℕ → Bool) → ℕ → ℤ
capacity_below net cap inside k = sum_below (λ arc. when (leaves net inside arc) (at cap arc)) k

abbrev pub capacity : Net → List ℤ → (ℕ → Bool) → ℤ
capacity net cap inside = capacity_below net cap inside (length net.arcs)

-- a flow of a value, and a cut of a capacity
pub record IsFlowOf (net : Net) (s t : ℕ) (cap flow : List ℤ) (value : ℤ) : Type 0 where
  pub is : IsFlow net s t cap flow
  pub value_is : outflow net flow s ≡ value

pub record IsCutOf (net : Net) (s t : ℕ) (cap : List ℤ) (cut : List ℕ) (value : ℤ) : Type 0 where
  pub is : IsCut net.n s t cut
  pub capacity_is : capacity net cap (is_in cut) ≡ value

-- an answer to the question for a maximum flow: a flow and a cut, both of the value told
pub record IsFlowAnswer (net : Net) (s t : ℕ) (cap : List ℤ) (a : FlowAnswer) : Type 0 where
  pub flow_of : IsFlowOf net s t cap a.flow a.value
  pub cut_of : IsCutOf net s t cap a.cut a.value

-- the law that makes it greatest
abbrev pub CutsBoundFlows : Type 0
CutsBoundFlows =
    (net : Net) (s t : ℕ) (cap flow : List ℤ) (cut : List ℕ) → IsValid net → s < net.n
    → IsFlow net s t cap flow → IsCut net.n s t cut
    → outflow net flow s ≤ℤ capacity net cap (is_in cut)

-- ---- the conditions of a checker, in their order, each at a place; the cut is read as a set

pub record IsFlowInRange (net : Net) (a : FlowAnswer) : Type 0 where
  pub flow : length a.flow ≡ length net.arcs
  pub cut : All (λ node. node < net.n) a.cut

abbrev pub IsWithinAt : List ℤ → List ℤ → List ℤ → ℕ → Type 0
IsWithinAt low high flow arc = (at low arc ≤ℤ at flow arc) × (at flow arc ≤ℤ at high arc)

abbrev pub flow_order : List Cond
flow_order = cond.Range ∷ cond.Bounds ∷ cond.Balance ∷ cond.Cut ∷ cond.Value ∷ []

abbrev pub FlowHolds : Net → ℕ → ℕ → List ℤ → FlowAnswer → Cond → ℕ → Type 0
FlowHolds net s t cap a cond.Range place = IsFlowInRange net a
FlowHolds net s t cap a cond.Bounds arc = arc < length net.arcs → IsWithinAt [] cap a.flow arc
FlowHolds net s t cap a cond.Balance node = node < net.n → node ≢ s → node ≢ t
    → outflow net a.flow node ≡ pos 0
FlowHolds net s t cap a cond.Cut place = (is_in a.cut s ≡ true) × (is_in a.cut t ≡ false)
FlowHolds net s t cap a cond.Value place = (outflow net a.flow s ≡ a.value)
    × (capacity net cap (is_in a.cut) ≡ a.value)
FlowHolds net s t cap a other place = ⊥

-- a checker's yes excludes a flow of a greater value
abbrev pub YesGivesGreatest : Type 0
YesGivesGreatest =
    (net : Net) (s t : ℕ) (cap : List ℤ) (a : FlowAnswer) (other : List ℤ) → IsValid net → s < net.n
    → AllHold (FlowHolds net s t cap a) flow_order → IsFlow net s t cap other
    → outflow net other s ≤ℤ outflow net a.flow s
