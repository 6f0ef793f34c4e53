-- Private: what is read of an item, by the serial that its container gave it.
use Rattle.std.specs.Prelude.{◌≡◌, ℕ, ℤ, true, Some}
use Rattle.item_ring.specs.RingLists.{IsDistinct}
use Rattle.item_list.specs.Items.{serials, value_at}
use Rattle.object_store.specs.declared.object.Object.{Object as Held}
use Rattle.object_store.specs.declared.part.Reading.{Reading}
use Rattle.object_store.specs.State.{Cell}
use Rattle.object_store.specs.Views.{is_of}
use Rattle.object_store.specs.Inner.{inner, kind_of}
use Rattle.object_store.specs.Words.{read, reading_kinds}

-- the item is there, and items of such a container have what is read
pub record CanRead (what : Reading) (s : ℕ) (o : Held) : Type 0 where
  pub cell : Cell
  pub there : value_at s (inner o) ≡ Some cell
  pub distinct : IsDistinct (serials (inner o))
  pub kind : is_of (reading_kinds what) (kind_of o) ≡ true

-- that is x
abbrev pub IsRead : Reading → ℕ → Held → ℤ → Type 0
IsRead what s o x = (c : Cell) × (value_at s (inner o) ≡ Some c) × (x ≡ read what c.1)
