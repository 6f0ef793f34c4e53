-- Private: how containers, arrays and maps stand for objects.
use Rattle.std.specs.Prelude.{ℕ, ℤ, List, [], ◌∷◌, map, Option, Some, None}
use Rattle.std.specs.FinMap as finmap
use Rattle.object_store.specs.declared.kind.ObjectKind.{ObjectKind}
use Rattle.object_store.specs.declared.kind.ObjectKind.TheVariants as kinds
use Rattle.object_store.specs.declared.kind.Sort.TheVariants.{Nodes, Edges}
use Rattle.object_store.specs.declared.object.Entry.{Entry}
use Rattle.object_store.specs.declared.object.Object.{Object as Held}
use Rattle.object_store.specs.declared.object.Object.TheVariants as held
use Rattle.object_store.specs.declared.kind.Sort.{Sort}
use Rattle.object_store.specs.declared.values.SortValues.{SortValues}
use Rattle.object_store.specs.declared.values.SortValues.TheVariants as sorted
use Rattle.object_store.specs.declared.values.Values.{Values}
use Rattle.object_store.specs.declared.values.Values.TheVariants as values
use Rattle.object_store.specs.State.{Cell, Object, Valuation}
use Rattle.object_store.specs.Values.{of_array, of_map}

-- an item with the serial that its container gave it
abbrev pub Inner : Type 0
Inner = ℕ × Cell

abbrev pub list_cell : ℕ × Entry → Inner
list_cell p = (p.0, (p.1.number, p.1.value ∷ []))

abbrev pub dict_cell : ℤ × (ℕ × Entry) → Inner
dict_cell e = (e.1.0, (e.1.1.number, e.0 ∷ e.1.1.value ∷ []))

abbrev pub queue_cell : ℕ × (ℤ × Entry) → Inner
queue_cell e = (e.0, (e.1.1.number, e.1.0 ∷ e.1.1.value ∷ []))

-- what an array or a map over elements of one sort holds
abbrev pub sort_values : {E : Type 0} → SortValues E → Valuation
sort_values (sorted.Array a) = of_array a
sort_values (sorted.Map m) = of_map m

abbrev pub kind_of_sort : {E : Type 0} → Sort → SortValues E → ObjectKind
kind_of_sort sort (sorted.Array a) = kinds.Array sort
kind_of_sort sort (sorted.Map m) = kinds.Map sort

-- the kind of an array or a map, and what it holds
abbrev pub kind_of_values : Values → ObjectKind
kind_of_values (values.Nodes v) = kind_of_sort Nodes v
kind_of_values (values.Edges v) = kind_of_sort Edges v

abbrev pub valuation : Values → Valuation
valuation (values.Nodes v) = sort_values v
valuation (values.Edges v) = sort_values v

abbrev pub values_in : Held → Option Valuation
values_in (held.Values v) = Some (valuation v)
values_in o = None

-- the items in the order of the object's, each with its serial
abbrev pub inner : Held → List Inner
inner (held.List l) = map list_cell l.pairs
inner (held.Dict d) = map dict_cell (finmap.entries d.triples)
inner (held.Queue q) = map queue_cell (finmap.entries q.live)
inner (held.Values v) = []

abbrev pub kind_of : Held → ObjectKind
kind_of (held.List l) = kinds.List
kind_of (held.Dict d) = kinds.Dict
kind_of (held.Queue q) = kinds.Queue
kind_of (held.Values v) = kind_of_values v

-- the last serial that the container gave
abbrev pub made_in : Held → ℕ
made_in (held.List l) = l.made
made_in (held.Dict d) = d.made
made_in (held.Queue q) = q.made
made_in (held.Values v) = 0

abbrev pub cell_in : Inner → Cell
cell_in p = p.1

abbrev pub cells_in : Held → List Cell
cells_in o = map cell_in (inner o)

-- what contracts see of an object
abbrev pub seen : Held → Object
seen o = record { kind = kind_of o; cells = cells_in o; values = values_in o }
