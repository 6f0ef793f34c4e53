-- Private: how items come into containers and go, by the serials that these give.
use Rattle.std.specs.Prelude.{◌≡◌, ℕ, ℤ, ◌+◌, ◌≤◌, List, [], ◌∷◌, ◌++◌, Some, None, ⊤, if◌then◌else◌}
use Rattle.std.specs.FinMap as finmap
use Rattle.item_list.specs.Items.{value_at, pairs_without, pairs_before, pairs_behind}
use Rattle.item_dict.specs.Contents.{IsAbsent}
use Rattle.item_queue.specs.Contents.{Queued}
use Rattle.script_text.specs.declared.form.Kinds.{Kinds}
use Rattle.script_text.specs.declared.form.Kinds.TheVariants as kinds
use Rattle.object_store.specs.declared.entrance.Entrance.{Entrance}
use Rattle.object_store.specs.declared.entrance.Entrance.TheVariants.{At, Key, Priority}
use Rattle.object_store.specs.declared.entrance.Spot.{Spot}
use Rattle.object_store.specs.declared.entrance.Spot.TheVariants.{Front, Rear, Before, Behind}
use Rattle.item_pool.specs.declared.pool.Item.{Item}
use Rattle.object_store.specs.declared.entrance.End.{End}
use Rattle.object_store.specs.declared.entrance.End.TheVariants as ends
use Rattle.object_store.specs.declared.entrance.Side.{Side}
use Rattle.object_store.specs.declared.entrance.Side.TheVariants as sides
use Rattle.object_store.specs.declared.object.Entry.{Entry}
use Rattle.object_store.specs.declared.object.Object.{Object as Held}
use Rattle.object_store.specs.declared.object.Object.TheVariants as held
use Rattle.object_store.specs.State.{Cell}
use Rattle.object_store.specs.Cells.{goes_before, placed, with_key}
use Rattle.object_store.specs.Inner.{Inner, inner, kind_of, made_in, values_in}

-- the list with a pair that came in
abbrev pub spotted : {X : Type 0} → Spot → ℕ × X → List (ℕ × X) → List (ℕ × X)
spotted Front p ps = p ∷ ps
spotted Rear p ps = ps ++ p ∷ []
spotted (Before it) p ps = pairs_before it.serial p ps
spotted (Behind it) p ps = pairs_behind it.serial p ps

-- the items with the new one before the first that it goes before
abbrev pub placed_in : Inner → List Inner → List Inner
placed_in p [] = p ∷ []
placed_in p (q ∷ qs) = if goes_before p.1 q.1 then p ∷ q ∷ qs else q ∷ placed_in p qs

-- the items with one that came in
abbrev pub entered : Entrance → Inner → List Inner → List Inner
entered (At spot) p ps = spotted spot p ps
entered (Key k) p ps = placed_in p ps
entered (Priority r) p ps = ps ++ p ∷ []

-- the same without serials, where no item is named
abbrev pub put_in : Entrance → Cell → List Cell → List Cell
put_in (At Front) c cs = c ∷ cs
put_in (At Rear) c cs = cs ++ c ∷ []
put_in (At spot) c cs = cs
put_in (Key k) c cs = placed c cs
put_in (Priority r) c cs = cs ++ c ∷ []

-- the objects that have such an entrance
abbrev pub entrance_kinds : Entrance → Kinds
entrance_kinds (At spot) = kinds.List
entrance_kinds (Key k) = kinds.Dict
entrance_kinds (Priority r) = kinds.Queue

-- no item is named, and no item has the key
abbrev pub IsOpen : Entrance → List Cell → Type 0
IsOpen (At Front) cs = ⊤
IsOpen (At Rear) cs = ⊤
IsOpen (At spot) cs = ⊥
IsOpen (Key k) cs = with_key k cs ≡ None
IsOpen (Priority r) cs = ⊤

-- the entrance at an end of a list, and beside an item
abbrev pub at_end : End → Entrance
at_end ends.Front = At Front
at_end ends.Rear = At Rear

abbrev pub beside : Side → Item → Entrance
beside sides.Before it = At (Before it)
beside sides.Behind it = At (Behind it)

-- the list with a pair at an end, and beside the item of the number
abbrev pub with_end : {X : Type 0} → End → ℕ × X → List (ℕ × X) → List (ℕ × X)
with_end ends.Front p ps = p ∷ ps
with_end ends.Rear p ps = ps ++ p ∷ []

abbrev pub with_beside : {X : Type 0} → Side → ℕ → ℕ × X → List (ℕ × X) → List (ℕ × X)
with_beside sides.Before i p ps = pairs_before i p ps
with_beside sides.Behind i p ps = pairs_behind i p ps

-- what the new item holds
abbrev pub values_of : Entrance → ℤ → List ℤ
values_of (At spot) value = value ∷ []
values_of (Key k) value = k ∷ value ∷ []
values_of (Priority r) value = r ∷ value ∷ []

-- an item is there
abbrev pub HasIt : ℕ → Held → Type 0
HasIt s o = (c : Cell) × (value_at s (inner o) ≡ Some c)

-- it has an item of the number i
abbrev pub HasNumber : Held → ℕ → Type 0
HasNumber o i = (s : ℕ) × (c : Cell) × (value_at s (inner o) ≡ Some c) × (c.0 ≡ i)

-- the spot names no item, or one that is there
abbrev pub IsThere : {X : Type 0} → Spot → List (ℕ × X) → Type 0
IsThere Front ps = ⊤
IsThere Rear ps = ⊤
IsThere {X} (Before it) ps = (x : X) × (value_at it.serial ps ≡ Some x)
IsThere {X} (Behind it) ps = (x : X) × (value_at it.serial ps ≡ Some x)

-- the same of an entrance
abbrev pub IsNamedThere : Entrance → List Inner → Type 0
IsNamedThere (At spot) xs = IsThere spot xs
IsNamedThere (Key k) xs = ⊤
IsNamedThere (Priority r) xs = ⊤

-- each item of the queue was given its serial
abbrev pub AreGiven : Queued Entry → Type 0
AreGiven q = (s : ℕ) (v : ℤ × Entry) → finmap.get q.live s ≡ Some v → s ≤ q.made

-- the container has such an entrance
abbrev pub Fits : Entrance → Held → Type 0
Fits (At spot) (held.List l) = IsThere spot l.pairs
Fits (Key k) (held.Dict d) = IsAbsent d k
Fits (Priority r) (held.Queue q) = AreGiven q
Fits entrance o = ⊥

-- the item it came in, with the next serial, and holds c
pub record Enters (entrance : Entrance) (o t : Held) (s : ℕ) (c : Cell) : Type 0 where
  pub serial : s ≡ made_in o + 1
  pub made : made_in t ≡ made_in o + 1
  pub kind : kind_of t ≡ kind_of o
  pub values : values_in t ≡ values_in o
  pub inner : inner t ≡ entered entrance (made_in o + 1, c) (inner o)

-- the object is as it was, but that it may have more room
pub record IsLike (o t : Held) : Type 0 where
  pub kind : kind_of t ≡ kind_of o
  pub values : values_in t ≡ values_in o
  pub made : made_in t ≡ made_in o
  pub inner : inner t ≡ inner o

-- the item of the serial has gone
pub record Leaves (s : ℕ) (o t : Held) : Type 0 where
  pub kind : kind_of t ≡ kind_of o
  pub values : values_in t ≡ values_in o
  pub made : made_in t ≡ made_in o
  pub inner : inner t ≡ pairs_without s (inner o)
