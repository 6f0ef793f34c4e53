-- Commands that are made of others: what their rows say.
use Rattle.std.proofs.Common.{◌≡◌, ℕ, true, false, List, [], ◌∷◌, Option, Some, None, refl, sym, ap, ◌∙◌, ⊎_elim}
use Rattle.std.specs.Prelude.{ℤ, option_map}
use Rattle.item_list.specs.Items.{pairs_with, pairs_without}
use Rattle.leda_base.specs.declared.ItemName.TheVariants as items
use Rattle.script_text.specs.declared.argument.Arg.TheVariants as args
use Rattle.script_text.specs.declared.form.Kinds.TheVariants as kinds
use Rattle.script_text.specs.declared.word.ObjectWord.TheVariants as words
use Rattle.reply_text.specs.declared.reply.Reply.{Reply}
use Rattle.reply_text.specs.declared.reply.Reply.TheVariants.{Line}
use Rattle.reply_text.specs.declared.reply.ReplyLine.TheVariants.{Empty, Nil, Num, Name}
use Rattle.reply_text.specs.Outcome.{Outcome, done}
use Rattle.object_store.specs.declared.entrance.End.{End}
use Rattle.object_store.specs.declared.entrance.End.TheVariants as ends
use Rattle.object_store.specs.declared.entrance.Entrance.TheVariants.{Key}
use Rattle.object_store.specs.declared.entrance.Side.{Side}
use Rattle.object_store.specs.declared.entrance.Side.TheVariants as sides
use Rattle.object_store.specs.declared.kind.ObjectKind.{ObjectKind}
use Rattle.object_store.specs.declared.kind.ObjectKind.TheVariants as sorts
use Rattle.object_store.specs.declared.near.Sought.{Sought}
use Rattle.object_store.specs.declared.near.Sought.TheVariants.{First, Last, WithKey, Least}
use Rattle.object_store.specs.State.{Cell, Object, ObjectState}
use Rattle.object_store.specs.Cells.{head_of, listed, placed, with_key}
use Rattle.object_store.specs.Commands.{dict_insert, enters, head_cell, leaves, min_line, next, objects_done, on_cell, on_object, with_cells}
use Rattle.object_store.specs.Entrance.{at_end, entrance_kinds, put_in, values_of, with_beside, IsOpen}
use Rattle.object_store.specs.Finds.{Finds}
use Rattle.object_store.specs.Leads.{Leads}
use Rattle.object_store.specs.Views.{is_of, object_at, holds_cell}
use Rattle.object_store.specs.Words.{inserting_word, putting_word, sought_kinds}
use Rattle.object_store.proofs.Finding.{found_cell, found_holds, found_kind, found_none, found_some, key_is, of_some}

some_same : {A : Type 0} (a b : A) → Some a ≡ Some b → a ≡ b
some_same a b e = cc

-- a command that takes no memory does what its row says
pub sure : (given : Option (Outcome ObjectState)) (s t : ObjectState) (reply : Reply) → Leads false given s reply t → given ≡ Some (t, reply)
sure given s t reply h = ⊎_elim (λ l. let no : false ≡ true = l.may in cc) (λ e. e) h

pub put_is : (end : End) (name : List ℕ) (v : ℤ) (s : ObjectState)
    → on_object s (entrance_kinds (at_end end)) name (λ o. enters name o (put_in (at_end end) (next (values_of (at_end end) v) s) o.cells) s) ≡ objects_done (putting_word end) (args.Name name ∷ args.Num v ∷ []) s
put_is ends.Front name v s = refl
put_is ends.Rear name v s = refl

pub open_end : (end : End) (cs : List Cell) → IsOpen (at_end end) cs
open_end ends.Front cs = tt
open_end ends.Rear cs = tt

pub kind_end : (end : End) → entrance_kinds (at_end end) ≡ kinds.List
kind_end ends.Front = refl
kind_end ends.Rear = refl

pub insert_is : (side : Side) (i : ℕ) (v : ℤ) (s : ObjectState)
    → on_cell s kinds.List i (λ x o old. enters x o (with_beside side i (next (v ∷ []) s) o.cells) s) ≡ objects_done (inserting_word side) (args.Cell i ∷ args.Num v ∷ []) s
insert_is sides.Before i v s = refl
insert_is sides.Behind i v s = refl

dict_wide : (kind : ObjectKind) → is_of kinds.Dict kind ≡ true → is_of kinds.DictOrQueue kind ≡ true
dict_wide sorts.List h = h
dict_wide sorts.Dict h = refl
dict_wide sorts.Queue h = refl
dict_wide (sorts.Array sort) h = let no : false ≡ true = h in cc
dict_wide (sorts.Map sort) h = let no : false ≡ true = h in cc

-- what is sought in is a container
contained : (what : Sought) (kind : ObjectKind) → is_of (sought_kinds what) kind ≡ true → is_of kinds.Container kind ≡ true
contained what sorts.List h = refl
contained what sorts.Dict h = refl
contained what sorts.Queue h = refl
contained First (sorts.Array sort) h = let no : false ≡ true = h in cc
contained Last (sorts.Array sort) h = let no : false ≡ true = h in cc
contained (WithKey k) (sorts.Array sort) h = let no : false ≡ true = h in cc
contained Least (sorts.Array sort) h = let no : false ≡ true = h in cc
contained First (sorts.Map sort) h = let no : false ≡ true = h in cc
contained Last (sorts.Map sort) h = let no : false ≡ true = h in cc
contained (WithKey k) (sorts.Map sort) h = let no : false ≡ true = h in cc
contained Least (sorts.Map sort) h = let no : false ≡ true = h in cc

-- ---- dictionaries
module _ (s : ObjectState) (name : List ℕ) (k v : ℤ) where
  dict_row : (r : Option ℕ) (f : Finds s (WithKey k) name r) → objects_done words.DictInsert (args.Name name ∷ args.Num k ∷ args.Num v ∷ []) s ≡ Some (dict_insert name k v f.object s (with_key k f.object.cells))
  dict_row r f = ap (λ z. option_map (λ (o : Object). dict_insert name k v o s (with_key k o.cells)) z) f.there

  -- a key that is there
  pub dict_known : (i : ℕ) (f : Finds s (WithKey k) name (Some i)) (t : ObjectState) (reply : Reply) → Leads false (objects_done words.ChangeInf (args.Cell i ∷ args.Num v ∷ []) s) s reply t
      → objects_done words.DictInsert (args.Name name ∷ args.Num k ∷ args.Num v ∷ []) s ≡ Some (t, Line (Name (items.Cell i)))
  dict_known i f t reply h =
      let w = found_some s (WithKey k) name i f in
      let o = f.object in
      let change : List ℕ → Object → List ℤ → Outcome ObjectState = λ x p old. done (with_cells x p (pairs_with w.0.0 (head_of old ∷ v ∷ []) p.cells) s) Empty in
      let row : objects_done words.ChangeInf (args.Cell w.0.0 ∷ args.Num v ∷ []) s ≡ Some (change name o w.0.1) =
      found_cell s (WithKey k) name (Some i) f w.0 w.1 kinds.DictOrQueue (dict_wide o.kind (found_kind s (WithKey k) name (Some i) f)) change in
      let both : change name o w.0.1 ≡ (t, reply) =
      some_same (change name o w.0.1) (t, reply) (sym row ∙ ap (λ z. objects_done words.ChangeInf (args.Cell z ∷ args.Num v ∷ []) s) w.2 ∙ sure (objects_done words.ChangeInf (args.Cell i ∷ args.Num v ∷ []) s) s t reply h) in
      dict_row (Some i) f
      ∙ ap (λ z. Some (dict_insert name k v o s z)) w.1
      ∙ ap (λ z. Some (done (with_cells name o (pairs_with w.0.0 (z ∷ v ∷ []) o.cells) s) (Name (items.Cell w.0.0)))) (sym (key_is k w.0 o.cells w.1))
      ∙ (λ j. Some ((both j).0, Line (Name (items.Cell (w.2 j)))))

  -- a new one
  pub dict_new : (f : Finds s (WithKey k) name None) → on_object s kinds.Dict name (λ o. enters name o (placed (next (k ∷ v ∷ []) s) o.cells) s) ≡ objects_done words.DictInsert (args.Name name ∷ args.Num k ∷ args.Num v ∷ []) s
  dict_new f =
      ap (λ z. option_map (λ (o : Object). enters name o (placed (next (k ∷ v ∷ []) s) o.cells) s) z) f.there
      ∙ sym (dict_row None f ∙ ap (λ z. Some (dict_insert name k v f.object s z)) (found_none s (WithKey k) name f))

  pub open_key : (f : Finds s (WithKey k) name None) (o : Object) → object_at s name ≡ Some o → IsOpen (Key k) o.cells
  open_key f o at =
      let one : f.object ≡ o = some_same f.object o (sym (of_some kinds.Dict (object_at s name) f.object f.there).0 ∙ at) in
      ap (λ (p : Object). with_key k p.cells) (sym one) ∙ found_none s (WithKey k) name f

abbrev removal : ObjectState → ℕ → List ℕ → Object → List ℤ → Outcome ObjectState
removal s i x o v = done (with_cells x o (pairs_without i o.cells) s) Empty

-- the item of the key goes
pub del_known : (s : ObjectState) (name : List ℕ) (k : ℤ) (i : ℕ) (f : Finds s (WithKey k) name (Some i)) → objects_done words.DelItem (args.Cell i ∷ []) s ≡ objects_done words.Del (args.Name name ∷ args.Num k ∷ []) s
del_known s name k i f =
    let w = found_some s (WithKey k) name i f in
    ap (λ z. objects_done words.DelItem (args.Cell z ∷ []) s) (sym w.2)
    ∙ found_cell s (WithKey k) name (Some i) f w.0 w.1 kinds.Container (contained (WithKey k) f.object.kind (found_kind s (WithKey k) name (Some i) f)) (removal s w.0.0)
    ∙ sym (ap (λ z. option_map (λ (o : Object). done (leaves name o (with_key k o.cells) s) Empty) z) f.there
    ∙ ap (λ z. Some (done (leaves name f.object z s) Empty)) w.1)

pub del_none : (s : ObjectState) (name : List ℕ) (k : ℤ) (f : Finds s (WithKey k) name None) → objects_done words.Del (args.Name name ∷ args.Num k ∷ []) s ≡ Some (s, Line Empty)
del_none s name k f =
    ap (λ z. option_map (λ (o : Object). done (leaves name o (with_key k o.cells) s) Empty) z) f.there
    ∙ ap (λ z. Some (done (leaves name f.object z s) Empty)) (found_none s (WithKey k) name f)

-- ---- queues
min_row : (s : ObjectState) (name : List ℕ) (r : Option ℕ) (f : Finds s Least name r) → objects_done words.DelMin (args.Name name ∷ []) s ≡ Some (done (leaves name f.object (head_cell (listed f.object)) s) (min_line (head_cell (listed f.object))))
min_row s name r f = ap (λ z. option_map (λ (o : Object). done (leaves name o (head_cell (listed o)) s) (min_line (head_cell (listed o)))) z) f.there

pub min_known : (s : ObjectState) (name : List ℕ) (i : ℕ) (f : Finds s Least name (Some i)) (t : ObjectState) (priority reply : Reply)
    → objects_done words.Prio (args.Cell i ∷ []) s ≡ Some (s, priority) → Leads false (objects_done words.DelItem (args.Cell i ∷ []) s) s reply t
    → objects_done words.DelMin (args.Name name ∷ []) s ≡ Some (t, priority)
min_known s name i f t priority reply read gone =
    let w = found_some s Least name i f in
    let o = f.object in
    let shown : Outcome ObjectState = done s (Num (head_of w.0.1)) in
    let first : shown ≡ (s, priority) = some_same shown (s, priority)
    (sym (found_cell s Least name (Some i) f w.0 w.1 kinds.Queue (found_kind s Least name (Some i) f) (λ x p v. done s (Num (head_of v))))
    ∙ ap (λ z. objects_done words.Prio (args.Cell z ∷ []) s) w.2 ∙ read) in
    let after : removal s w.0.0 name o w.0.1 ≡ (t, reply) = some_same (removal s w.0.0 name o w.0.1) (t, reply)
    (sym (found_cell s Least name (Some i) f w.0 w.1 kinds.Container (contained Least o.kind (found_kind s Least name (Some i) f)) (removal s w.0.0))
    ∙ ap (λ z. objects_done words.DelItem (args.Cell z ∷ []) s) w.2 ∙ sure (objects_done words.DelItem (args.Cell i ∷ []) s) s t reply gone) in
    min_row s name (Some i) f
    ∙ ap (λ z. Some (done (leaves name o z s) (min_line z))) w.1
    ∙ (λ j. Some ((after j).0, (first j).1))

pub min_none : (s : ObjectState) (name : List ℕ) (f : Finds s Least name None) → objects_done words.DelMin (args.Name name ∷ []) s ≡ Some (s, Line Nil)
min_none s name f = min_row s name None f ∙ ap (λ z. Some (done (leaves name f.object z s) (min_line z))) (found_none s Least name f)

-- what is asked of the calls
pub key_there : (s : ObjectState) (name : List ℕ) (k : ℤ) (i : ℕ) → Finds s (WithKey k) name (Some i) → holds_cell s kinds.DictOrQueue i ≡ true
key_there s name k i f =
    let w = found_some s (WithKey k) name i f in
    ap (λ z. holds_cell s kinds.DictOrQueue z) (sym w.2)
    ∙ found_holds s (WithKey k) name (Some i) f w.0 w.1 kinds.DictOrQueue (dict_wide f.object.kind (found_kind s (WithKey k) name (Some i) f))

pub item_there : (s : ObjectState) (what : Sought) (name : List ℕ) (i : ℕ) → Finds s what name (Some i) → holds_cell s kinds.Container i ≡ true
item_there s what name i f =
    let w = found_some s what name i f in
    ap (λ z. holds_cell s kinds.Container z) (sym w.2) ∙ found_holds s what name (Some i) f w.0 w.1 kinds.Container (contained what f.object.kind (found_kind s what name (Some i) f))

pub least_held : (s : ObjectState) (name : List ℕ) (i : ℕ) → Finds s Least name (Some i) → holds_cell s kinds.Queue i ≡ true
least_held s name i f =
    let w = found_some s Least name i f in
    ap (λ z. holds_cell s kinds.Queue z) (sym w.2) ∙ found_holds s Least name (Some i) f w.0 w.1 kinds.Queue (found_kind s Least name (Some i) f)
