-- Private: the last arcs of tagged nodes: the tree that they make, and closed walks of them.
use Rattle.std.specs.Prelude.{◌≡◌, ℕ, ◌<◌, ◌<ℤ◌, Bool, true, false, List, length, drop, reverse, slice_index, Option, Some, None}
use Rattle.graph_defs.specs.declared.net.Net.{Net}
use Rattle.graph_defs.specs.declared.shortest.Why.TheVariants.{Seed}
use Rattle.graph_defs.specs.Net.{source, target}
use Rattle.graph_defs.specs.Walk.{IsWalkBy}
use Rattle.sp_search.specs.declared.finding.Found.{Found}
use Rattle.sp_search.specs.declared.tags.Tag.{Tag}
use Rattle.sp_search.specs.Finding.{found_at, is_marked, IsFinding, IsClosedAlong}
use Rattle.sp_search.specs.Tags.{far, tag_at, label_of}

-- the last arc of a node, and of the node where an arc ends
abbrev pub last_by : List Tag → ℕ → Option ℕ
last_by tags v = (tag_at tags v).by

abbrev pub last_at : Net → List Tag → ℕ → Option ℕ
last_at net tags arc = last_by tags (target net arc)

-- the source is tagged, and has no last arc
pub record IsRoot (tags : List Tag) (s : ℕ) : Type 0 where
  pub bare : last_by tags s ≡ None
  pub tagged : label_of tags s <ℤ far

-- which of the arcs below k are last arcs
pub record AreLastArcs (net : Net) (tags : List Tag) (k : ℕ) (opened : List Bool) : Type 0 where
  pub long : length opened ≡ k
  pub only : (arc : ℕ) → is_marked opened arc ≡ true → last_at net tags arc ≡ Some arc
  pub all : (arc : ℕ) → arc < k → last_at net tags arc ≡ Some arc → is_marked opened arc ≡ true

-- ---- the tree of the source

pub record IsTreeOf (net : Net) (s : ℕ) (tags : List Tag) (queue : List Found)
    (marks : List Bool) : Type 0 where
  pub opened : List Bool
  pub lasts : AreLastArcs net tags (length net.arcs) opened
  pub is : IsFinding net opened queue marks
  pub closed : IsClosedAlong net opened marks
  pub root : (k i : ℕ) → k < length queue → (found_at queue k).why ≡ Seed i
      → (k ≡ 0) × ((found_at queue k).node ≡ s) × IsRoot tags s
  pub has : IsRoot tags s → is_marked marks s ≡ true

-- a node is tagged and isn't marked
pub record IsStray (tags : List Tag) (marks : List Bool) (v : ℕ) : Type 0 where
  pub below : v < length tags
  pub tagged : label_of tags v <ℤ far
  pub missed : is_marked marks v ≡ false

-- none of the first k is
abbrev pub AreMarked : List Tag → List Bool → ℕ → Type 0
AreMarked tags marks k = (v : ℕ) → v < k → IsStray tags marks v → ⊥

-- ---- closed walks of last arcs

-- a last arc leads to each stray node, and from one
pub record IsClimb (net : Net) (tags : List Tag) (marks : List Bool) (v arc : ℕ) : Type 0 where
  pub by : last_by tags v ≡ Some arc
  pub known : arc < length net.arcs
  pub to : target net arc ≡ v
  pub from : IsStray tags marks (source net arc)

abbrev pub CanClimb : Net → List Tag → List Bool → Type 0
CanClimb net tags marks =
    (v : ℕ) → IsStray tags marks v → (arc : ℕ) × IsClimb net tags marks v arc

-- a last arc
abbrev pub IsLastArc : Net → List Tag → ℕ → Type 0
IsLastArc net tags arc = (arc < length net.arcs) × (last_at net tags arc ≡ Some arc)

-- a walk along last arcs against their direction
abbrev pub IsBack : Net → List Tag → ℕ → ℕ → List ℕ → Type 0
IsBack net tags v w arcs = IsWalkBy (IsLastArc net tags) (target net) (source net) v w arcs

-- an arc of a trail ends at a node
abbrev pub StandsIn : Net → List ℕ → ℕ → Type 0
StandsIn net trail v =
    (k : ℕ) × (k < length trail) × (target net (slice_index trail k) ≡ v)

-- a row has the arcs of the trail from there on, the last one first
abbrev pub IsTurned : Net → List ℕ → ℕ → List ℕ → Type 0
IsTurned net trail v row =
    (k : ℕ) × (k < length trail) × (target net (slice_index trail k) ≡ v)
    × (row ≡ reverse (drop k trail))

-- a closed walk of last arcs at a stray node, the last one first
abbrev pub IsLoop : Net → List Tag → List Bool → List ℕ → Type 0
IsLoop net tags marks row =
    (v : ℕ) × (back : List ℕ) × IsStray tags marks v × IsBack net tags v v back
    × (0 < length back) × (row ≡ reverse back)
