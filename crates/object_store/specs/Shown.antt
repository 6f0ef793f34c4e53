-- Private: how the items of an object are shown.
use Rattle.std.specs.Prelude.{◌≡◌, ℕ, ◌≤◌, List, Some}
use Rattle.item_ring.specs.RingLists.{IsDistinct}
use Rattle.item_list.specs.Items.{serials, value_at}
use Rattle.reply_text.specs.declared.reply.CellShow.{CellShow}
use Rattle.object_store.specs.declared.object.Object.{Object as Held}
use Rattle.object_store.specs.State.{Cell}
use Rattle.object_store.specs.Cells.{shown}
use Rattle.object_store.specs.Inner.{Inner, inner, made_in}
use Rattle.object_store.specs.Near.{IsRising}

-- each item has a serial of its own that was given, and items that came in later have greater
-- numbers
pub record IsShowable (o : Held) : Type 0 where
  pub distinct : IsDistinct (serials (inner o))
  pub given : (s : ℕ) (c : Cell) → value_at s (inner o) ≡ Some c → s ≤ made_in o
  pub rising : IsRising (inner o)

-- the item of the serial is there, and is shown so
abbrev pub IsShown : List Inner → ℕ → CellShow → Type 0
IsShown xs s r = (c : Cell) × (value_at s xs ≡ Some c) × (r ≡ shown c)
