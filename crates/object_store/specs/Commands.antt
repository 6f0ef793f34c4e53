-- What each command on objects does to them, and what it is answered.
use Rattle.std.specs.Prelude.{ℕ, ℤ, pos, ◌+◌, ◌==◌, List, [], ◌∷◌, ◌++◌, map, length, reverse, Option, Some, None, option_map, option_and_then, if◌then◌else◌, int_lt}
use Rattle.std.specs.FinMap as map
use Rattle.item_pool.specs.declared.pool.TheConstants.{MOST_SERIALS}
use Rattle.item_list.specs.Items.{value_at, pairs_without, pairs_before, pairs_behind, pairs_with}
use Rattle.leda_base.specs.declared.ItemName.TheVariants as items
use Rattle.script_text.specs.declared.argument.Arg.{Arg}
use Rattle.script_text.specs.declared.argument.Arg.TheVariants as args
use Rattle.script_text.specs.declared.form.Kinds.{Kinds}
use Rattle.script_text.specs.declared.form.Kinds.TheVariants as kinds
use Rattle.reply_text.specs.declared.reply.ReplyLine.{ReplyLine}
use Rattle.reply_text.specs.declared.reply.ReplyLine.TheVariants.{Empty, Nil, Num, Name, Cells}
use Rattle.reply_text.specs.declared.refusal.Refusal.{Refusal}
use Rattle.reply_text.specs.declared.refusal.Refusal.TheVariants.{FullItems, FullObjects, Spent, Larger}
use Rattle.reply_text.specs.Outcome.{Outcome, done, refused, unless}
use Rattle.object_store.specs.declared.objects.TheConstants.{CELL_LIMIT, OBJECT_LIMIT}
use Rattle.object_store.specs.declared.kind.ObjectKind.{ObjectKind}
use Rattle.object_store.specs.declared.kind.ObjectKind.TheVariants as sorts
use Rattle.script_text.specs.declared.word.ObjectWord.{ObjectWord}
use Rattle.script_text.specs.declared.word.ObjectWord.TheVariants as words
use Rattle.object_store.specs.State.{Cell, Object, ObjectState}
use Rattle.object_store.specs.Views.{object_of, holder_of, live_cells}
use Rattle.object_store.specs.Cells.{head_of, inf_of, before, behind, first_of, last_of, with_key, placed, listed, shown}

-- the objects with this one under the name, and without that of the name
abbrev pub with_object : List ℕ → Object → ObjectState → ObjectState
with_object name o s = record s { objects = map.insert s.objects name o }

abbrev pub without_object : List ℕ → ObjectState → ObjectState
without_object name s = record s { objects = map.remove s.objects name }

-- the objects, where that of the name has these items
abbrev pub with_cells : List ℕ → Object → List Cell → ObjectState → ObjectState
with_cells name o cells s = with_object name (record o { cells = cells }) s

-- what refuses one item more: there are as many as there may be, or each number was given
abbrev pub full_cell : ObjectState → Option Refusal
full_cell s =
    if live_cells s == CELL_LIMIT then Some FullItems
    else if s.made == MOST_SERIALS then Some Spent else None

-- a new object comes in, unless there are as many as there may be
abbrev pub comes_in : List ℕ → Object → ObjectState → Outcome ObjectState
comes_in name o s =
    if map.len s.objects == OBJECT_LIMIT then refused s FullObjects
    else done (with_object name o s) Empty

-- a container of the kind without items
abbrev pub container : ObjectKind → Object
container kind = record { kind = kind; cells = []; values = None }

-- one item more, with the next number, where the object of the name then has these items
abbrev pub enters : List ℕ → Object → List Cell → ObjectState → Outcome ObjectState
enters name o cells s = unless (full_cell s) s
    (done (record (with_cells name o cells s) { made = s.made + 1 })
    (Name (items.Cell (s.made + 1))))

-- the next item, with these values
abbrev pub next : List ℤ → ObjectState → Cell
next values s = (s.made + 1, values)

-- `dict_insert X k x`: a key that is there keeps its item
abbrev pub dict_insert : List ℕ → ℤ → ℤ → Object → ObjectState → Option Cell → Outcome ObjectState
dict_insert name key inf o s (Some c) =
    done (with_cells name o (pairs_with c.0 (key ∷ inf ∷ []) o.cells) s) (Name (items.Cell c.0))
dict_insert name key inf o s None = enters name o (placed (next (key ∷ inf ∷ []) s) o.cells) s

-- the number of an item, if there is one
abbrev pub number_of : Option Cell → Option ℕ
number_of c = option_map (λ (d : Cell). d.0) c

-- the item of the number, if there is one
abbrev pub number_line : Option ℕ → ReplyLine
number_line None = Nil
number_line (Some i) = Name (items.Cell i)

-- the object of the name without the item c, if there is one
abbrev pub leaves : List ℕ → Object → Option Cell → ObjectState → ObjectState
leaves name o None s = s
leaves name o (Some c) s = with_cells name o (pairs_without c.0 o.cells) s

-- `del_min X`, where c is the least item, if there is one
abbrev pub min_line : Option Cell → ReplyLine
min_line None = Nil
min_line (Some c) = Num (head_of c.1)

-- the first of the items
abbrev pub head_cell : List Cell → Option Cell
head_cell [] = None
head_cell (c ∷ cs) = Some c

-- `decrease i p`
abbrev pub decrease : ℕ → List ℕ → Object → List ℤ → ℤ → ObjectState → Outcome ObjectState
decrease i name o values p s =
    if int_lt (head_of values) p then refused s (Larger (head_of values))
    else done (with_cells name o (pairs_with i (p ∷ inf_of values ∷ []) o.cells) s) Empty

-- what f makes of the object of the name, if that is one of these kinds
abbrev pub on_object : ObjectState → Kinds → List ℕ → (Object → Outcome ObjectState)
    → Option (Outcome ObjectState)
on_object s kinds name f = option_map f (object_of s kinds name)

-- what f makes of the object that the item is one of, with its name, and of what the item holds, if
-- the object is one of these kinds
abbrev pub on_cell : ObjectState → Kinds → ℕ → (List ℕ → Object → List ℤ → Outcome ObjectState)
    → Option (Outcome ObjectState)
on_cell s kinds i f =
    option_and_then (λ h. option_map (f h.0 h.1) (value_at i h.1.cells)) (holder_of s kinds i)

-- a command by its word, if these are arguments that the word takes
abbrev pub objects_done : ObjectWord → List Arg → ObjectState → Option (Outcome ObjectState)
objects_done words.MakeList (args.Name x ∷ []) s = Some (comes_in x (container sorts.List) s)
objects_done words.MakeDict (args.Name x ∷ []) s = Some (comes_in x (container sorts.Dict) s)
objects_done words.MakeQueue (args.Name x ∷ []) s = Some (comes_in x (container sorts.Queue) s)
objects_done words.DropObject (args.Name x ∷ []) s =
    on_object s kinds.Any x (λ o. done (without_object x s) Empty)
objects_done words.Size (args.Name x ∷ []) s =
    on_object s kinds.Container x (λ o. done s (Num (pos (length o.cells))))
objects_done words.Items (args.Name x ∷ []) s =
    on_object s kinds.Container x (λ o. done s (Cells (map shown (listed o))))
objects_done words.Push (args.Name x ∷ args.Num v ∷ []) s =
    on_object s kinds.List x (λ o. enters x o (next (v ∷ []) s ∷ o.cells) s)
objects_done words.Append (args.Name x ∷ args.Num v ∷ []) s =
    on_object s kinds.List x (λ o. enters x o (o.cells ++ next (v ∷ []) s ∷ []) s)
objects_done words.InsertBefore (args.Cell i ∷ args.Num v ∷ []) s =
    on_cell s kinds.List i (λ x o old. enters x o (pairs_before i (next (v ∷ []) s) o.cells) s)
objects_done words.InsertBehind (args.Cell i ∷ args.Num v ∷ []) s =
    on_cell s kinds.List i (λ x o old. enters x o (pairs_behind i (next (v ∷ []) s) o.cells) s)
objects_done words.Contents (args.Cell i ∷ []) s =
    on_cell s kinds.List i (λ x o v. done s (Num (head_of v)))
objects_done words.Assign (args.Cell i ∷ args.Num v ∷ []) s =
    on_cell s kinds.List i (λ x o old.
    done (with_cells x o (pairs_with i (v ∷ []) o.cells) s) Empty)
objects_done words.First (args.Name x ∷ []) s =
    on_object s kinds.ListOrDict x (λ o. done s (number_line (first_of o.cells)))
objects_done words.Last (args.Name x ∷ []) s =
    on_object s kinds.ListOrDict x (λ o. done s (number_line (last_of o.cells)))
objects_done words.Succ (args.Cell i ∷ []) s =
    on_cell s kinds.ListOrDict i (λ x o v. done s (number_line (first_of (behind i o.cells))))
objects_done words.Pred (args.Cell i ∷ []) s =
    on_cell s kinds.ListOrDict i (λ x o v. done s (number_line (last_of (before i o.cells))))
objects_done words.CyclicSucc (args.Cell i ∷ []) s =
    on_cell s kinds.List i (λ x o v.
    done s (number_line (first_of (behind i o.cells ++ before i o.cells ++ (i, v) ∷ []))))
objects_done words.CyclicPred (args.Cell i ∷ []) s =
    on_cell s kinds.List i (λ x o v.
    done s (number_line (last_of ((i, v) ∷ behind i o.cells ++ before i o.cells))))
objects_done words.MoveToFront (args.Cell i ∷ []) s =
    on_cell s kinds.List i (λ x o v.
    done (with_cells x o ((i, v) ∷ pairs_without i o.cells) s) Empty)
objects_done words.MoveToRear (args.Cell i ∷ []) s =
    on_cell s kinds.List i (λ x o v.
    done (with_cells x o (pairs_without i o.cells ++ (i, v) ∷ []) s) Empty)
objects_done words.ReverseItems (args.Name x ∷ []) s =
    on_object s kinds.List x (λ o. done (with_cells x o (reverse o.cells) s) Empty)
objects_done words.DictInsert (args.Name x ∷ args.Num k ∷ args.Num v ∷ []) s =
    on_object s kinds.Dict x (λ o. dict_insert x k v o s (with_key k o.cells))
objects_done words.Lookup (args.Name x ∷ args.Num k ∷ []) s =
    on_object s kinds.Dict x (λ o. done s (number_line (number_of (with_key k o.cells))))
objects_done words.Del (args.Name x ∷ args.Num k ∷ []) s =
    on_object s kinds.Dict x (λ o. done (leaves x o (with_key k o.cells) s) Empty)
objects_done words.Key (args.Cell i ∷ []) s =
    on_cell s kinds.Dict i (λ x o v. done s (Num (head_of v)))
objects_done words.QueueInsert (args.Name x ∷ args.Num p ∷ args.Num v ∷ []) s =
    on_object s kinds.Queue x (λ o. enters x o (o.cells ++ next (p ∷ v ∷ []) s ∷ []) s)
objects_done words.FindMin (args.Name x ∷ []) s =
    on_object s kinds.Queue x (λ o. done s (number_line (first_of (listed o))))
objects_done words.DelMin (args.Name x ∷ []) s =
    on_object s kinds.Queue x (λ o.
    done (leaves x o (head_cell (listed o)) s) (min_line (head_cell (listed o))))
objects_done words.Prio (args.Cell i ∷ []) s =
    on_cell s kinds.Queue i (λ x o v. done s (Num (head_of v)))
objects_done words.Decrease (args.Cell i ∷ args.Num p ∷ []) s =
    on_cell s kinds.Queue i (λ x o v. decrease i x o v p s)
objects_done words.Inf (args.Cell i ∷ []) s =
    on_cell s kinds.DictOrQueue i (λ x o v. done s (Num (inf_of v)))
objects_done words.ChangeInf (args.Cell i ∷ args.Num v ∷ []) s =
    on_cell s kinds.DictOrQueue i (λ x o old.
    done (with_cells x o (pairs_with i (head_of old ∷ v ∷ []) o.cells) s) Empty)
objects_done words.DelItem (args.Cell i ∷ []) s =
    on_cell s kinds.Container i (λ x o v.
    done (with_cells x o (pairs_without i o.cells) s) Empty)
objects_done word args s = None
