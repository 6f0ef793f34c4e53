-- Private: what a step leaves of the rings.
use Rattle.std.specs.Prelude.{◌≡◌, ℕ, ◌+◌, ◌-◌, Bool, true, false, ◌⊎◌, List, [], ◌∷◌, ◌++◌}
use Rattle.std.specs.FinMap as map
use Rattle.graph_state.specs.declared.kind.Side.{Side}
use Rattle.graph_state.specs.declared.kind.Side.TheVariants.{Before, Behind}
use Rattle.item_ring.specs.RingLists.{RingLists, IsLinked, IsLinkedIn, AreApart, ring, without, with_after, with_before}

pub record AddsHead (r t : RingLists) (h : ℕ) : Type 0 where
  pub fresh : map.contains_key r.rings h ≡ false
  pub rings : t.rings ≡ map.insert r.rings h []
  pub more : map.len t.rings ≡ map.len r.rings + 1
  pub loose : t.loose ≡ r.loose
  pub tags : t.tags ≡ r.tags
  pub spare : t.spare_heads ≡ r.spare_heads - 1
  pub others : t.spare_members ≡ r.spare_members
  pub apart : AreApart t

pub record AddsMember (r t : RingLists) (m tag : ℕ) : Type 0 where
  pub fresh : map.contains_key r.tags m ≡ false
  pub tags : t.tags ≡ map.insert r.tags m tag
  pub more : map.len t.tags ≡ map.len r.tags + 1
  pub loose : t.loose ≡ m ∷ r.loose
  pub rings : t.rings ≡ r.rings
  pub spare : t.spare_members ≡ r.spare_members - 1
  pub others : t.spare_heads ≡ r.spare_heads
  pub apart : AreApart t

-- the member goes to the end of the ring
pub record Pushes (r t : RingLists) (h m : ℕ) : Type 0 where
  pub rings : t.rings ≡ map.insert r.rings h (ring r h ++ m ∷ [])
  pub loose : t.loose ≡ without m r.loose
  pub tags : t.tags ≡ r.tags
  pub spare : (t.spare_heads ≡ r.spare_heads) × (t.spare_members ≡ r.spare_members)
  pub apart : AreApart t

-- it goes there where the flag is true
abbrev pub PushesIf : Bool → RingLists → RingLists → ℕ → ℕ → Type 0
PushesIf true r t h m = Pushes r t h m
PushesIf false r t h m = t ≡ r

-- the member leaves its ring
pub record Unlinks (r t : RingLists) (m : ℕ) : Type 0 where
  pub rings : (h : ℕ) → IsLinkedIn r h m → t.rings ≡ map.insert r.rings h (without m (ring r h))
  pub loose : t.loose ≡ m ∷ r.loose
  pub tags : t.tags ≡ r.tags
  pub spare : (t.spare_heads ≡ r.spare_heads) × (t.spare_members ≡ r.spare_members)
  pub apart : AreApart t

-- it leaves it where it is in one
abbrev pub UnlinksIf : RingLists → RingLists → ℕ → Type 0
UnlinksIf r t m = (IsLinked r m × Unlinks r t m) ⊎ ((IsLinked r m → ⊥) × (t ≡ r))

-- the member goes right before another one, or right behind it
abbrev pub member_beside : Side → ℕ → ℕ → List ℕ → List ℕ
member_beside Before = with_before
member_beside Behind = with_after

pub record PutsBeside (side : Side) (r t : RingLists) (at m : ℕ) : Type 0 where
  pub rings : (h : ℕ) → IsLinkedIn r h at
      → t.rings ≡ map.insert r.rings h (member_beside side at m (ring r h))
  pub loose : t.loose ≡ without m r.loose
  pub tags : t.tags ≡ r.tags
  pub spare : (t.spare_heads ≡ r.spare_heads) × (t.spare_members ≡ r.spare_members)
  pub apart : AreApart t
