-- Private: the places of objects, and the objects that stand in them.
use Rattle.std.specs.Prelude.{◌≡◌, ℕ, Bool, List, [], ◌∷◌, length, filter, is_some, Option, Some, None, slice_get, ⊤}
use Rattle.std.specs.Ordering.{nat_cmp, eq_by_cmp}
use Rattle.std.specs.Cmp.Lexicographic.{slice_cmp}
use Rattle.std.specs.FinMap as finmap
use Rattle.object_store.specs.declared.slots.Named.{Named}
use Rattle.object_store.specs.State.{Object}
use Rattle.object_store.specs.Inner.{seen}

-- two names are one
abbrev pub same_name : List ℕ → List ℕ → Bool
same_name x y = eq_by_cmp (slice_cmp nat_cmp) x y

-- the objects that stand in the places, by their names
abbrev pub entries_of : List (Option Named) → List (List ℕ × Object)
entries_of [] = []
entries_of (None ∷ places) = entries_of places
entries_of (Some n ∷ places) = (n.name, seen n.object) ∷ entries_of places

abbrev pub objects_in : List (Option Named) → finmap.FinMap (slice_cmp nat_cmp) Object
objects_in places = finmap.from_entries (entries_of places)

-- the first object of the name
abbrev pub found : List ℕ → List (Option Named) → Option Object
found name places = finmap.find (slice_cmp nat_cmp) name (entries_of places)

-- no two places have one name
abbrev pub AreApart : List (Option Named) → Type 0
AreApart [] = ⊤
AreApart (None ∷ places) = AreApart places
AreApart (Some n ∷ places) = (found n.name places ≡ None) × AreApart places

-- the object of the name stands at the place
abbrev pub HasName : List (Option Named) → List ℕ → ℕ → Type 0
HasName places name k = (n : Named) × (slice_get places k ≡ Some (Some n)) × (n.name ≡ name)

-- how many places aren't free
abbrev pub taken : List (Option Named) → ℕ
taken places = length (filter (λ (place : Option Named). is_some place) places)
