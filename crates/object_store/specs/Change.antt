-- Private: how a container changes that keeps its items, by the serials that it gave them.
use Rattle.std.specs.Prelude.{◌≡◌, ◌≤ℤ◌, List, [], ◌∷◌, Some, reverse}
use Rattle.item_list.specs.Items.{value_at, pairs_with, pairs_without}
use Rattle.object_store.specs.declared.change.Change.{Change}
use Rattle.object_store.specs.declared.change.Change.TheVariants.{Write, Move, Turn, Lower}
use Rattle.object_store.specs.declared.kind.ObjectKind.{ObjectKind}
use Rattle.object_store.specs.declared.kind.ObjectKind.TheVariants as sorts
use Rattle.object_store.specs.declared.object.Object.{Object as Held}
use Rattle.object_store.specs.State.{Cell}
use Rattle.object_store.specs.Cells.{head_of, inf_of, written}
use Rattle.object_store.specs.Inner.{Inner, inner, kind_of, made_in, values_in}
use Rattle.object_store.specs.Entrance.{with_end}

-- the item is there, under its number, and the container has such a change
abbrev pub Allows : Change → Held → Type 0
Allows (Write it e) o = (c : Cell) × (value_at it.serial (inner o) ≡ Some c) × (c.0 ≡ e.number)
Allows (Move it end) o =
    (c : Cell) × (value_at it.serial (inner o) ≡ Some c) × (kind_of o ≡ sorts.List)
Allows Turn o = kind_of o ≡ sorts.List
Allows (Lower it p) o =
    (c : Cell) × (value_at it.serial (inner o) ≡ Some c) × (kind_of o ≡ sorts.Queue)
    × (p ≤ℤ head_of c.1)

-- the items before the change, and after it
abbrev pub Becomes : Change → ObjectKind → List Inner → List Inner → Type 0
Becomes (Write it e) kind xs ys =
    (c : Cell) × (value_at it.serial xs ≡ Some c)
    × (ys ≡ pairs_with it.serial (e.number, written kind e.value c.1) xs)
Becomes (Move it end) kind xs ys =
    (c : Cell) × (value_at it.serial xs ≡ Some c)
    × (ys ≡ with_end end (it.serial, c) (pairs_without it.serial xs))
Becomes Turn kind xs ys = ys ≡ reverse xs
Becomes (Lower it p) kind xs ys =
    (c : Cell) × (value_at it.serial xs ≡ Some c)
    × (ys ≡ pairs_with it.serial (c.0, p ∷ inf_of c.1 ∷ []) xs)

-- the container has changed so, and gave no serial
pub record IsChanged (change : Change) (o t : Held) : Type 0 where
  pub kind : kind_of t ≡ kind_of o
  pub values : values_in t ≡ values_in o
  pub made : made_in t ≡ made_in o
  pub items : Becomes change (kind_of o) (inner o) (inner t)
