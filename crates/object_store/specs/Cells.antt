-- The items of a container: what they hold, and where they stand.
use Rattle.std.specs.Prelude.{ℕ, ℤ, pos, Bool, ◌==◌, ◌||◌, ◌&&◌, List, [], ◌∷◌, find, slice_index_or, Option, Some, None, if◌then◌else◌, int_lt, nat_lt}
use Rattle.std.specs.Ordering.{int_eq}
use Rattle.reply_text.specs.declared.reply.CellShow.{CellShow}
use Rattle.object_store.specs.declared.kind.ObjectKind.{ObjectKind}
use Rattle.object_store.specs.declared.kind.ObjectKind.TheVariants as sorts
use Rattle.object_store.specs.State.{Cell, Object}

-- the value of an item of a list; the key of one of a dictionary; the priority of one of a queue
abbrev pub head_of : List ℤ → ℤ
head_of values = slice_index_or values 0 (pos 0)

-- the information of an item of a dictionary or a queue
abbrev pub inf_of : List ℤ → ℤ
inf_of values = slice_index_or values 1 (pos 0)

-- the items before that of the number, and those behind it
abbrev pub before : ℕ → List Cell → List Cell
before i [] = []
before i (c ∷ cs) = if c.0 == i then [] else c ∷ before i cs

abbrev pub behind : ℕ → List Cell → List Cell
behind i [] = []
behind i (c ∷ cs) = if c.0 == i then cs else behind i cs

-- the number of the first item, and of the last one
abbrev pub first_of : List Cell → Option ℕ
first_of [] = None
first_of (c ∷ cs) = Some c.0

abbrev pub last_of : List Cell → Option ℕ
last_of [] = None
last_of (c ∷ []) = Some c.0
last_of (c ∷ d ∷ ds) = last_of (d ∷ ds)

-- the item of a dictionary with the key
abbrev pub with_key : ℤ → List Cell → Option Cell
with_key key cells = find (λ (c : Cell). int_eq (head_of c.1) key) cells

-- c goes before d: its key or priority is less, or they are equal and its number is less
abbrev pub goes_before : Cell → Cell → Bool
goes_before c d =
    int_lt (head_of c.1) (head_of d.1)
    || (int_eq (head_of c.1) (head_of d.1) && nat_lt c.0 d.0)

-- the items with the new one before the first that it goes before
abbrev pub placed : Cell → List Cell → List Cell
placed new [] = new ∷ []
placed new (c ∷ cs) = if goes_before new c then new ∷ c ∷ cs else c ∷ placed new cs

-- the items by key or priority, and then by number
abbrev pub in_order : List Cell → List Cell
in_order [] = []
in_order (c ∷ cs) = placed c (in_order cs)

-- the items of a container in the order in which they are shown
abbrev pub listed_by : ObjectKind → List Cell → List Cell
listed_by sorts.List cells = cells
listed_by sorts.Dict cells = cells
listed_by sorts.Queue cells = in_order cells
listed_by (sorts.Array sort) cells = cells
listed_by (sorts.Map sort) cells = cells

abbrev pub listed : Object → List Cell
listed o = listed_by o.kind o.cells

-- an item as it is shown
abbrev pub shown : Cell → CellShow
shown c = record { number = c.0; values = c.1 }

-- what an item holds once its value or its information is another one
abbrev pub written : ObjectKind → ℤ → List ℤ → List ℤ
written sorts.List x values = x ∷ []
written kind x values = head_of values ∷ x ∷ []
