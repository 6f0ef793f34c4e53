-- Private: how the places and the pool of items stand for the objects.
use Rattle.std.specs.Prelude.{◌≡◌, ℕ, ◌≤◌, ◌⊎◌, List, [], ◌∷◌, ◌++◌, Option, Some, None, slice_get, slice_set}
use Rattle.std.specs.FinMap as finmap
use Rattle.item_pool.specs.Contents.{Contents}
use Rattle.item_list.specs.Items.{serials, value_at}
use Rattle.item_ring.specs.RingLists.{IsDistinct}
use Rattle.object_store.specs.declared.objects.Place.{Place}
use Rattle.object_store.specs.declared.object.Object.{Object as Held}
use Rattle.object_store.specs.declared.slots.Named.{Named}
use Rattle.object_store.specs.State.{Cell, ObjectState}
use Rattle.object_store.specs.Inner.{inner, made_in}
use Rattle.object_store.specs.Near.{IsRising}
use Rattle.object_store.specs.Slots.{objects_in, AreApart}

abbrev pub Places : Type 0
Places = List (Option Named)

abbrev pub state_of : Places → Contents Place → ObjectState
state_of places cells = record { objects = objects_in places; made = cells.made }

-- the object at the place k has, under the serial s, the item of the number i
abbrev pub IsAt : Places → ℕ → ℕ → ℕ → Type 0
IsAt places k s i =
    (n : Named) × (c : Cell) × (slice_get places k ≡ Some (Some n))
    × (value_at s (inner n.object) ≡ Some c) × (c.0 ≡ i)

-- the pool says so
abbrev pub IsSaid : Contents Place → ℕ → ℕ → ℕ → Type 0
IsSaid cells k s i =
    (p : Place) × (finmap.get cells.live i ≡ Some p) × (p.slot ≡ k) × (p.item.serial ≡ s)

-- the container gave no more serials than there are numbers, each item has a serial of its own that
-- was given, and items that came in later have greater numbers
pub record IsSound (made : ℕ) (n : Named) : Type 0 where
  pub few : made_in n.object ≤ made
  pub distinct : IsDistinct (serials (inner n.object))
  pub given : (s : ℕ) (c : Cell) → value_at s (inner n.object) ≡ Some c → s ≤ made_in n.object
  pub rising : IsRising (inner n.object)

-- names are apart, and the pool has just the items of the objects
pub record IsKept (places : Places) (cells : Contents Place) : Type 0 where
  pub apart : AreApart places
  pub said : (k s i : ℕ) → IsAt places k s i → IsSaid cells k s i
  pub there : (k s i : ℕ) → IsSaid cells k s i → IsAt places k s i
  pub sound : (k : ℕ) (n : Named) → slice_get places k ≡ Some (Some n) → IsSound cells.made n

-- the object comes into a place that was free, or behind all places
abbrev pub Puts : Places → Places → Named → Type 0
Puts before after n =
    ((k : ℕ) × (slice_get before k ≡ Some None) × (after ≡ slice_set before k (Some n)))
    ⊎ (after ≡ before ++ Some n ∷ [])

-- the object at the place k has the property
abbrev pub HasAt : Places → ℕ → (Held → Type 0) → Type 0
HasAt places k P = (n : Named) × (slice_get places k ≡ Some (Some n)) × P n.object

-- the object at the place k, under its name, has become another one, which R says
pub record Replaces (before after : Places) (k : ℕ) (R : Held → Held → Type 0) : Type 0 where
  pub old : Named
  pub new : Named
  pub was : slice_get before k ≡ Some (Some old)
  pub is : after ≡ slice_set before k (Some new)
  pub name : new.name ≡ old.name
  pub changed : R old.object new.object
