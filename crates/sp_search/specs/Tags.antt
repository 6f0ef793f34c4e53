-- Private: the tags of nodes in a search by rounds, and what a round does to them.
use Rattle.std.specs.Prelude.{◌≡◌, ◌⊎◌, ℕ, ◌<◌, ◌^◌, ℤ, pos, ◌+ℤ◌, ◌-ℤ◌, ◌*ℤ◌, ◌≤ℤ◌, ◌<ℤ◌, Bool, false, List, [], ◌∷◌, length, slice_set, slice_index_or, Option, Some, None}
use Rattle.graph_defs.specs.declared.net.Net.{Net}
use Rattle.graph_defs.specs.Net.{source, target}
use Rattle.graph_defs.specs.Sum.{at}
use Rattle.graph_defs.specs.Walk.{IsWalk}
use Rattle.sp_search.specs.declared.tags.Tag.{Tag}
use Rattle.sp_search.specs.Finding.{is_marked}
use Rattle.sp_search.specs.Wide.{IsWide}

-- the label of a node to which no walk is known
abbrev pub far : ℤ
far = pos (10 ^ 32)

-- a cost counts more than as many times as there are nodes, and each arc counts 1 more: so of two
-- walks that weigh the same the one of fewer arcs is shorter
abbrev pub stretch : ℤ → ℤ
stretch c = (c *ℤ pos 131072) +ℤ pos 1

abbrev pub length_of : List ℤ → ℕ → ℤ
length_of cost arc = stretch (at cost arc)

abbrev pub tag_at : List Tag → ℕ → Tag
tag_at tags v = slice_index_or tags v (record { label = far; by = None })

abbrev pub label_of : List Tag → ℕ → ℤ
label_of tags v = (tag_at tags v).label

-- what a search is asked: costs of 64 bits
pub record IsPriced (net : Net) (cost : List ℤ) : Type 0 where
  pub wide : IsWide net
  pub long : length cost ≡ length net.arcs
  pub low : (arc : ℕ) → (pos 0 -ℤ pos (2 ^ 63)) ≤ℤ at cost arc
  pub high : (arc : ℕ) → at cost arc ≤ℤ pos (2 ^ 63)

-- the label of v is no less than that of the node where its arc begins and the length of the arc;
-- where it has no arc, v is the source, or no walk is known
abbrev pub IsTaggedBy : Net → ℕ → List ℤ → List Tag → ℕ → ℤ → Option ℕ → Type 0
IsTaggedBy net s cost tags v label None = ((v ≡ s) × (label ≡ pos 0)) ⊎ (label ≡ far)
IsTaggedBy net s cost tags v label (Some arc) =
    (arc < length net.arcs) × (target net arc ≡ v) × (label_of tags (source net arc) <ℤ far)
    × ((label_of tags (source net arc) +ℤ length_of cost arc) ≤ℤ label) × (label <ℤ far)

-- nodes that aren't shut are tagged, each with its arc, and walks lead to them
pub record IsTagged (net : Net) (s : ℕ) (cost : List ℤ) (shut : List Bool)
    (tags : List Tag) : Type 0 where
  pub long : length tags ≡ net.n
  pub arcs : (v : ℕ) → IsTaggedBy net s cost tags v (tag_at tags v).label (tag_at tags v).by
  pub top : (v : ℕ) → label_of tags v ≤ℤ far
  pub root : is_marked shut s ≡ false → label_of tags s ≤ℤ pos 0
  pub free : (v : ℕ) → label_of tags v <ℤ far → is_marked shut v ≡ false
  pub walk : (v : ℕ) → label_of tags v <ℤ far → (walk : List ℕ) × IsWalk net s v walk

-- no label is lower
abbrev pub AreAbove : List Tag → ℕ → Type 0
AreAbove tags bound = (v : ℕ) → (pos 0 -ℤ pos bound) ≤ℤ label_of tags v

-- the labels together
abbrev pub total : List Tag → ℤ
total [] = pos 0
total (x ∷ xs) = x.label +ℤ total xs

-- ---- along one arc

-- it can't make the label of its target less
abbrev pub IsSettledAlong : Net → List ℤ → List Bool → List Tag → ℕ → Type 0
IsSettledAlong net cost shut tags arc =
    label_of tags (source net arc) <ℤ far → is_marked shut (target net arc) ≡ false
    → label_of tags (target net arc) ≤ℤ (label_of tags (source net arc) +ℤ length_of cost arc)

pub record HasStayed (net : Net) (cost : List ℤ) (shut : List Bool) (arc : ℕ)
    (tags tags' : List Tag) : Type 0 where
  pub is : tags' ≡ tags
  pub settled : IsSettledAlong net cost shut tags arc

-- or it does
pub record HasFallen (net : Net) (cost : List ℤ) (shut : List Bool) (arc : ℕ)
    (tags tags' : List Tag) : Type 0 where
  pub begins : label_of tags (source net arc) <ℤ far
  pub goes : is_marked shut (target net arc) ≡ false
  pub falls : (label_of tags (source net arc) +ℤ length_of cost arc)
      <ℤ label_of tags (target net arc)
  pub is : tags' ≡ slice_set tags (target net arc) (record {
    label = label_of tags (source net arc) +ℤ length_of cost arc;
    by = Some arc;
  })

-- ---- along the arcs below k

-- the labels together are less
abbrev pub IsLess : List Tag → List Tag → Type 0
IsLess tags tags' = total tags' <ℤ total tags

-- or nothing fell
pub record AreSettled (net : Net) (cost : List ℤ) (shut : List Bool) (k : ℕ)
    (tags tags' : List Tag) : Type 0 where
  pub is : tags' ≡ tags
  pub settled : (arc : ℕ) → arc < k → IsSettledAlong net cost shut tags' arc
