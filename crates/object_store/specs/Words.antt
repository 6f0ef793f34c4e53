-- The words of commands that are one call with a parameter, and the kinds of objects that they
-- take.
use Rattle.std.specs.Prelude.{ℤ, List, [], ◌∷◌}
use Rattle.script_text.specs.declared.argument.Arg.{Arg}
use Rattle.script_text.specs.declared.argument.Arg.TheVariants as args
use Rattle.script_text.specs.declared.form.Kinds.{Kinds}
use Rattle.script_text.specs.declared.form.Kinds.TheVariants as kinds
use Rattle.object_store.specs.declared.entrance.End.{End}
use Rattle.object_store.specs.declared.entrance.End.TheVariants as ends
use Rattle.object_store.specs.declared.entrance.Side.{Side}
use Rattle.object_store.specs.declared.entrance.Side.TheVariants as sides
use Rattle.object_store.specs.declared.near.Neighbour.{Neighbour}
use Rattle.object_store.specs.declared.near.Neighbour.TheVariants.{Succ, Pred, CyclicSucc, CyclicPred}
use Rattle.object_store.specs.declared.near.Sought.{Sought}
use Rattle.object_store.specs.declared.near.Sought.TheVariants.{First, Last, WithKey, Least}
use Rattle.object_store.specs.declared.part.Reading.{Reading}
use Rattle.object_store.specs.declared.part.Reading.TheVariants as readings
use Rattle.object_store.specs.declared.part.Writing.{Writing}
use Rattle.object_store.specs.declared.part.Writing.TheVariants as writings
use Rattle.script_text.specs.declared.word.ObjectWord.{ObjectWord}
use Rattle.script_text.specs.declared.word.ObjectWord.TheVariants as words
use Rattle.object_store.specs.Cells.{head_of, inf_of}

abbrev pub reading_word : Reading → ObjectWord
reading_word readings.Contents = words.Contents
reading_word readings.Key = words.Key
reading_word readings.Priority = words.Prio
reading_word readings.Information = words.Inf

abbrev pub reading_kinds : Reading → Kinds
reading_kinds readings.Contents = kinds.List
reading_kinds readings.Key = kinds.Dict
reading_kinds readings.Priority = kinds.Queue
reading_kinds readings.Information = kinds.DictOrQueue

-- what is read of an item that holds these values
abbrev pub read : Reading → List ℤ → ℤ
read readings.Contents values = head_of values
read readings.Key values = head_of values
read readings.Priority values = head_of values
read readings.Information values = inf_of values

abbrev pub writing_word : Writing → ObjectWord
writing_word writings.Contents = words.Assign
writing_word writings.Information = words.ChangeInf

abbrev pub writing_kinds : Writing → Kinds
writing_kinds writings.Contents = kinds.List
writing_kinds writings.Information = kinds.DictOrQueue

abbrev pub putting_word : End → ObjectWord
putting_word ends.Front = words.Push
putting_word ends.Rear = words.Append

abbrev pub inserting_word : Side → ObjectWord
inserting_word sides.Before = words.InsertBefore
inserting_word sides.Behind = words.InsertBehind

abbrev pub moving_word : End → ObjectWord
moving_word ends.Front = words.MoveToFront
moving_word ends.Rear = words.MoveToRear

abbrev pub sought_word : Sought → ObjectWord
sought_word First = words.First
sought_word Last = words.Last
sought_word (WithKey k) = words.Lookup
sought_word Least = words.FindMin

-- what is named behind the object
abbrev pub sought_args : Sought → List Arg
sought_args (WithKey k) = args.Num k ∷ []
sought_args what = []

-- the objects that are sought in
abbrev pub sought_kinds : Sought → Kinds
sought_kinds First = kinds.ListOrDict
sought_kinds Last = kinds.ListOrDict
sought_kinds (WithKey k) = kinds.Dict
sought_kinds Least = kinds.Queue

abbrev pub neighbour_word : Neighbour → ObjectWord
neighbour_word Succ = words.Succ
neighbour_word Pred = words.Pred
neighbour_word CyclicSucc = words.CyclicSucc
neighbour_word CyclicPred = words.CyclicPred

-- the objects whose items have such a neighbour
abbrev pub neighbour_kinds : Neighbour → Kinds
neighbour_kinds Succ = kinds.ListOrDict
neighbour_kinds Pred = kinds.ListOrDict
neighbour_kinds CyclicSucc = kinds.List
neighbour_kinds CyclicPred = kinds.List
