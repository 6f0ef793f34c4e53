-- What is asked of the objects of a session.
use Rattle.std.specs.Prelude.{ℕ, zero, suc, Bool, true, false, ◌+◌, List, find, is_some, Option, Some, None, option_map, option_and_then, if◌then◌else◌}
use Rattle.std.specs.Option.{option_map_or}
use Rattle.std.specs.FinMap as map
use Rattle.item_list.specs.Items.{value_at}
use Rattle.script_text.specs.declared.form.Kinds.{Kinds}
use Rattle.script_text.specs.declared.form.Kinds.TheVariants as kinds
use Rattle.object_store.specs.declared.kind.ObjectKind.{ObjectKind}
use Rattle.object_store.specs.declared.kind.ObjectKind.TheVariants as sorts
use Rattle.object_store.specs.declared.kind.Sort.TheVariants.{Nodes, Edges}
use Rattle.object_store.specs.State.{Object, ObjectState}

-- an object of the kind is one of these
abbrev pub is_of : Kinds → ObjectKind → Bool
is_of kinds.List sorts.List = true
is_of kinds.Dict sorts.Dict = true
is_of kinds.Queue sorts.Queue = true
is_of kinds.ListOrDict sorts.List = true
is_of kinds.ListOrDict sorts.Dict = true
is_of kinds.DictOrQueue sorts.Dict = true
is_of kinds.DictOrQueue sorts.Queue = true
is_of kinds.Container sorts.List = true
is_of kinds.Container sorts.Dict = true
is_of kinds.Container sorts.Queue = true
is_of kinds.NodeValues (sorts.Array Nodes) = true
is_of kinds.NodeValues (sorts.Map Nodes) = true
is_of kinds.EdgeValues (sorts.Array Edges) = true
is_of kinds.EdgeValues (sorts.Map Edges) = true
is_of kinds.Any kind = true
is_of kinds kind = false

-- the object of the name
abbrev pub object_at : ObjectState → List ℕ → Option Object
object_at s name = map.get s.objects name

-- the object, if it is of these kinds
abbrev pub of_kinds : Kinds → Object → Option Object
of_kinds kinds o = if is_of kinds o.kind then Some o else None

-- the object of the name, if it is of these kinds
abbrev pub object_of : ObjectState → Kinds → List ℕ → Option Object
object_of s kinds name = option_and_then (of_kinds kinds) (object_at s name)

abbrev pub has_object : ObjectState → Kinds → List ℕ → Bool
has_object s kinds name = is_some (object_of s kinds name)

-- the item is one of the object
abbrev pub has_cell : ℕ → Object → Bool
has_cell i o = is_some (value_at i o.cells)

-- the item is one of the object of the name
abbrev pub is_in : ObjectState → ℕ → List ℕ → Bool
is_in s i name = option_map_or (has_cell i) (object_at s name) false

-- the name of the object that the item is one of
abbrev pub holder : ObjectState → ℕ → Option (List ℕ)
holder s i = find (is_in s i) (map.keys s.objects)

-- that name and the object, if it is of these kinds
abbrev pub holder_of : ObjectState → Kinds → ℕ → Option (List ℕ × Object)
holder_of s kinds i =
    option_and_then (λ name. option_map (λ o. (name, o)) (object_of s kinds name)) (holder s i)

abbrev pub holds_cell : ObjectState → Kinds → ℕ → Bool
holds_cell s kinds i = is_some (holder_of s kinds i)

-- the item is there
abbrev pub is_live : ObjectState → ℕ → Bool
is_live s i = is_some (holder s i)

-- how many of the numbers from 1 to n pass the test
unfoldable pub passing : (ℕ → Bool) → ℕ → ℕ
passing test zero = 0
passing test (suc n) = (if test (suc n) then 1 else 0) + passing test n

-- how many items there are
abbrev pub live_cells : ObjectState → ℕ
live_cells s = passing (is_live s) s.made
