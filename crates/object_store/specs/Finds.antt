-- Private: what is sought in an object of a name.
use Rattle.std.specs.Prelude.{◌≡◌, ℕ, List, [], ◌∷◌, Option, Some, None}
use Rattle.item_list.specs.Items.{value_at}
use Rattle.object_store.specs.declared.near.Sought.{Sought}
use Rattle.object_store.specs.declared.near.Sought.TheVariants.{First, Last, WithKey, Least}
use Rattle.object_store.specs.State.{Cell, Object, ObjectState}
use Rattle.object_store.specs.Cells.{listed, with_key}
use Rattle.object_store.specs.Commands.{head_cell, number_of}
use Rattle.object_store.specs.Views.{object_of, holder}
use Rattle.object_store.specs.Words.{sought_kinds}

abbrev pub last_cell : List Cell → Option Cell
last_cell [] = None
last_cell (c ∷ []) = Some c
last_cell (c ∷ d ∷ ds) = last_cell (d ∷ ds)

abbrev pub sought_cell : Sought → Object → Option Cell
sought_cell First o = head_cell o.cells
sought_cell Last o = last_cell o.cells
sought_cell (WithKey k) o = with_key k o.cells
sought_cell Least o = head_cell (listed o)

-- that is the item of the number r, which no other object has
pub record Finds (s : ObjectState) (what : Sought) (name : List ℕ) (r : Option ℕ) : Type 0 where
  pub object : Object
  pub there : object_of s (sought_kinds what) name ≡ Some object
  pub number : r ≡ number_of (sought_cell what object)
  pub held : (c : Cell) → sought_cell what object ≡ Some c
      → (value_at c.0 object.cells ≡ Some c.1) × (holder s c.0 ≡ Some name)
