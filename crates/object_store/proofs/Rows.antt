-- What lists do with their serials, said with the numbers of the items.
use Rattle.std.proofs.Common.{◌≡◌, ℕ, true, false, List, [], ◌∷◌, map, Option, Some, None, refl, sym, ◌∙◌}
use Rattle.std.specs.Prelude.{ℤ, option_map}
use Rattle.item_pool.specs.declared.pool.Item.{Item}
use Rattle.item_list.specs.Items.{value_at}
use Rattle.script_text.specs.declared.form.Kinds.TheVariants as kinds
use Rattle.object_store.specs.declared.entrance.Side.{Side}
use Rattle.object_store.specs.declared.entrance.Side.TheVariants as sides
use Rattle.object_store.specs.declared.object.Entry.{Entry}
use Rattle.object_store.specs.declared.object.Object.{Object as Held}
use Rattle.object_store.specs.declared.object.Object.TheVariants as held
use Rattle.object_store.specs.State.{Cell}
use Rattle.object_store.specs.Views.{is_of}
use Rattle.object_store.specs.Inner.{Inner, inner, kind_of, list_cell, cell_in}
use Rattle.object_store.specs.Entrance.{entered, beside, with_beside, values_of, Fits}
use Rattle.object_store.proofs.ByKind.{no_list}
use Rattle.object_store.proofs.Pairs.{Agrees, before_of, behind_of, value_of, keeps}

from_map : {A B : Type 0} (f : A → B) (o : Option A) (y : B) → option_map f o ≡ Some y → (x : A) × (o ≡ Some x)
from_map f None y e = let no : None ≡ Some y = e in cc
from_map f (Some x) y e = (x, refl)

-- what the object has under a serial, the list has
pub pair_there : (s : ℕ) (ps : List (ℕ × Entry)) (c : Cell) → value_at s (map list_cell ps) ≡ Some c → (x : Entry) × (value_at s ps ≡ Some x)
pair_there s ps c e =
    let g : Entry → Cell = λ x. (x.number, x.value ∷ []) in
    from_map g (value_at s ps) c (sym (value_of list_cell s s g (λ p. refl) ps (keeps list_cell (λ p. refl) s ps)) ∙ e)

-- and beside its items
pub fits_beside : (side : Side) (it : Item) (o : Held) (c : Cell) → is_of kinds.List (kind_of o) ≡ true → value_at it.serial (inner o) ≡ Some c → Fits (beside side it) o
fits_beside sides.Before it (held.List l) c is has = pair_there it.serial l.pairs c has
fits_beside sides.Behind it (held.List l) c is has = pair_there it.serial l.pairs c has
fits_beside side it (held.Dict d) c is has = let no : false ≡ true = is in cc
fits_beside side it (held.Queue q) c is has = let no : false ≡ true = is in cc
fits_beside side it (held.Values v) c is has = absurd (no_list v is)

pub cells_beside : (side : Side) (it : Item) (i s : ℕ) (c : Cell) (ps : List Inner) → Agrees cell_in it.serial i ps → map cell_in (entered (beside side it) (s, c) ps) ≡ with_beside side i c (map cell_in ps)
cells_beside sides.Before it i s c ps h = before_of cell_in it.serial i (s, c) ps h
cells_beside sides.Behind it i s c ps h = behind_of cell_in it.serial i (s, c) ps h

-- beside an item stands the value alone
pub values_beside : (side : Side) (it : Item) (v : ℤ) → values_of (beside side it) v ≡ v ∷ []
values_beside sides.Before it v = refl
values_beside sides.Behind it v = refl
