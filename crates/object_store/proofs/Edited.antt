-- A container has changed: what its row says of it.
use Rattle.std.proofs.Common.{◌≡◌, ℕ, true, false, List, [], ◌∷◌, map, Some, refl, sym, ap, ◌∙◌}
use Rattle.std.specs.Prelude.{ℤ, int_lt, slice_get, reverse}
use Rattle.item_pool.specs.Contents.{Contents}
use Rattle.item_list.specs.Items.{value_at, pairs_with, pairs_without}
use Rattle.script_text.specs.declared.argument.Arg.TheVariants as args
use Rattle.script_text.specs.declared.form.Kinds.{Kinds}
use Rattle.script_text.specs.declared.form.Kinds.TheVariants as kinds
use Rattle.reply_text.specs.declared.reply.Reply.TheVariants.{Line, Refused}
use Rattle.reply_text.specs.declared.reply.ReplyLine.TheVariants.{Empty, Num}
use Rattle.reply_text.specs.declared.refusal.Refusal.TheVariants.{Larger}
use Rattle.reply_text.specs.Outcome.{Outcome, done, refused}
use Rattle.object_store.specs.declared.change.Change.{Change}
use Rattle.object_store.specs.declared.change.Change.TheVariants.{Write, Move, Turn, Lower}
use Rattle.object_store.specs.declared.entrance.End.{End}
use Rattle.object_store.specs.declared.entrance.End.TheVariants as ends
use Rattle.object_store.specs.declared.kind.ObjectKind.{ObjectKind}
use Rattle.object_store.specs.declared.kind.ObjectKind.TheVariants as sorts
use Rattle.object_store.specs.declared.object.Entry.{Entry}
use Rattle.object_store.specs.declared.objects.Place.{Place}
use Rattle.object_store.specs.declared.part.Reading.{Reading}
use Rattle.object_store.specs.declared.part.Reading.TheVariants as readings
use Rattle.object_store.specs.declared.part.Writing.{Writing}
use Rattle.object_store.specs.declared.part.Writing.TheVariants as writings
use Rattle.object_store.specs.declared.slots.Named.{Named}
use Rattle.script_text.specs.declared.word.ObjectWord.TheVariants as words
use Rattle.object_store.specs.State.{Cell, Object, ObjectState}
use Rattle.object_store.specs.Cells.{head_of, inf_of, written}
use Rattle.object_store.specs.Commands.{objects_done, on_cell, decrease, with_cells}
use Rattle.object_store.specs.Views.{is_of, has_object}
use Rattle.object_store.specs.Words.{read, reading_word, reading_kinds, writing_word, writing_kinds, moving_word}
use Rattle.object_store.specs.Inner.{Inner, inner, kind_of, cell_in, cells_in, seen}
use Rattle.object_store.specs.Entrance.{with_end}
use Rattle.object_store.specs.Change.{Allows, IsChanged}
use Rattle.object_store.specs.Look.{IsRead}
use Rattle.object_store.specs.Kept.{Places, state_of, IsKept, Replaces}
use Rattle.object_store.proofs.Changes.{map_turned, state_changed}
use Rattle.object_store.proofs.Holders.{agrees}
use Rattle.object_store.proofs.Leads.{CellAt, on_cell_there, on_object_there}
use Rattle.object_store.proofs.Lists.{map_more, cond_true, cond_false}
use Rattle.object_store.proofs.ByKind.{list_kind, queue_kind}
use Rattle.object_store.proofs.Ordered.{int_less}
use Rattle.std.proofs.lemmas.Int.{by_lt_z}
use Rattle.object_store.proofs.Pairs.{Agrees, with_of, without_of}

some_same : {A : Type 0} (a b : A) → Some a ≡ Some b → a ≡ b
some_same a b e = cc

-- the same of an object that is known to stand there
pub cell_of : (ps : Places) (kinds : Kinds) (p : Place) (i : ℕ) (w : CellAt ps kinds p i) (n : Named) → slice_get ps p.slot ≡ Some (Some n) → w.object ≡ n
cell_of ps kinds p i w n at = let both : Some (Some w.object) ≡ Some (Some n) = sym w.at ∙ at in cc

abbrev pub moved_to : (ps : Places) (kinds : Kinds) (p : Place) (i : ℕ) (w : CellAt ps kinds p i) (n : Named) → slice_get ps p.slot ≡ Some (Some n) → CellAt ps kinds p i
moved_to ps kinds p i w n at =
    let one = cell_of ps kinds p i w n at in
    record {
      object = n;
      cell = w.cell;
      at = at;
      has = ap (λ (m : Named). value_at p.item.serial (inner m.object)) (sym one) ∙ w.has;
      is = w.is;
      kind = ap (λ (m : Named). is_of kinds (kind_of m.object)) (sym one) ∙ w.kind;
    }

written_list : (kind : ObjectKind) (x : ℤ) (vs : List ℤ) → is_of kinds.List kind ≡ true → written kind x vs ≡ x ∷ []
written_list sorts.List x vs is = refl
written_list sorts.Dict x vs is = let no : false ≡ true = is in cc
written_list sorts.Queue x vs is = let no : false ≡ true = is in cc
written_list (sorts.Array sort) x vs is = let no : false ≡ true = is in cc
written_list (sorts.Map sort) x vs is = let no : false ≡ true = is in cc

written_other : (kind : ObjectKind) (x : ℤ) (vs : List ℤ) → is_of kinds.DictOrQueue kind ≡ true → written kind x vs ≡ head_of vs ∷ x ∷ []
written_other sorts.List x vs is = let no : false ≡ true = is in cc
written_other sorts.Dict x vs is = refl
written_other sorts.Queue x vs is = refl
written_other (sorts.Array sort) x vs is = let no : false ≡ true = is in cc
written_other (sorts.Map sort) x vs is = let no : false ≡ true = is in cc

-- what an item holds once this is written to it
abbrev rewritten : Writing → ℤ → List ℤ → List ℤ
rewritten writings.Contents x vs = x ∷ []
rewritten writings.Information x vs = head_of vs ∷ x ∷ []

written_is : (what : Writing) (kind : ObjectKind) (x : ℤ) (vs : List ℤ) → is_of (writing_kinds what) kind ≡ true → written kind x vs ≡ rewritten what x vs
written_is writings.Contents kind x vs is = written_list kind x vs is
written_is writings.Information kind x vs is = written_other kind x vs is

abbrev with_row : ℤ → Writing → ℕ → ObjectState → List ℕ → Object → List ℤ → Outcome ObjectState
with_row v what i s x o vs = done (with_cells x o (pairs_with i (rewritten what v vs) o.cells) s) Empty

write_is : (what : Writing) (i : ℕ) (v : ℤ) (s : ObjectState) → objects_done (writing_word what) (args.Cell i ∷ args.Num v ∷ []) s ≡ on_cell s (writing_kinds what) i (with_row v what i s)
write_is writings.Contents i v s = refl
write_is writings.Information i v s = refl

abbrev move_row : End → ℕ → ObjectState → List ℕ → Object → List ℤ → Outcome ObjectState
move_row end i s x o vs = done (with_cells x o (with_end end (i, vs) (pairs_without i o.cells)) s) Empty

move_is : (end : End) (i : ℕ) (s : ObjectState) → objects_done (moving_word end) (args.Cell i ∷ []) s ≡ on_cell s kinds.List i (move_row end i s)
move_is ends.Front i s = refl
move_is ends.Rear i s = refl

ended : (end : End) (s : ℕ) (c : Cell) (xs : List Inner) → map cell_in (with_end end (s, c) xs) ≡ with_end end c (map cell_in xs)
ended ends.Front s c xs = refl
ended ends.Rear s c xs = map_more cell_in xs ((s, c) ∷ [])

module _ (ps qs : Places) (cells : Contents Place) (kept : IsKept ps cells) (p : Place) (i : ℕ) where
  agree : (kinds : Kinds) (w : CellAt ps kinds p i) → Agrees cell_in p.item.serial i (inner w.object.object)
  agree kinds w = agrees ps cells kept p.slot p.item.serial i w.object w.cell w.at w.has w.is

  pub allows_write : (kinds : Kinds) (w : CellAt ps kinds p i) (e : Entry) → e.number ≡ i → Allows (Write p.item e) w.object.object
  allows_write kinds w e is = (w.cell, w.has, w.is ∙ sym is)

  pub allows_move : (w : CellAt ps kinds.List p i) (end : End) → Allows (Move p.item end) w.object.object
  allows_move w end = (w.cell, w.has, list_kind (kind_of w.object.object) w.kind)

  -- the row gives these items
  row_given : (kinds : Kinds) (change : Change) (r : Replaces ps qs p.slot (IsChanged change)) (w : CellAt ps kinds p i) (f : List ℕ → Object → List ℤ → Outcome ObjectState) (cs : List Cell)
      → w.object ≡ r.old → cells_in r.new.object ≡ cs → f w.object.name (seen w.object.object) w.cell.1 ≡ done (with_cells r.old.name (seen r.old.object) cs (state_of ps cells)) Empty
      → on_cell (state_of ps cells) kinds i f ≡ Some (state_of qs cells, Line Empty)
  row_given kinds change r w f cs one is row =
      on_cell_there ps cells kept kinds i p w f ∙ ap Some row
      ∙ ap (λ t. Some (t, Line Empty)) (sym (state_changed ps qs p.slot cells kept change r ∙ ap (λ z. with_cells r.old.name (seen r.old.object) z (state_of ps cells)) is))

  pub write_row : (what : Writing) (v : ℤ) (e : Entry) → e.number ≡ i → e.value ≡ v → (r : Replaces ps qs p.slot (IsChanged (Write p.item e))) → CellAt ps (writing_kinds what) p i
      → objects_done (writing_word what) (args.Cell i ∷ args.Num v ∷ []) (state_of ps cells) ≡ Some (state_of qs cells, Line Empty)
  write_row what v e number value r there =
      let w = moved_to ps (writing_kinds what) p i there r.old r.was in
      let h = r.changed.items in
      let one : h.0 ≡ w.cell = some_same h.0 w.cell (sym h.1 ∙ w.has) in
      let holds : written (kind_of r.old.object) e.value h.0.1 ≡ rewritten what v w.cell.1 =
      written_is what (kind_of r.old.object) e.value h.0.1 w.kind ∙ (λ j. rewritten what (value j) (one j).1) in
      write_is what i v (state_of ps cells)
      ∙ row_given (writing_kinds what) (Write p.item e) r w (with_row v what i (state_of ps cells)) (pairs_with i (rewritten what v w.cell.1) (cells_in r.old.object)) refl
      (ap (map cell_in) h.2
      ∙ with_of cell_in p.item.serial i (e.number, written (kind_of r.old.object) e.value h.0.1) (rewritten what v w.cell.1) (λ j. (number j, holds j)) (inner r.old.object) (agree (writing_kinds what) w))
      refl

  pub move_given : (end : End) (r : Replaces ps qs p.slot (IsChanged (Move p.item end))) → CellAt ps kinds.List p i
      → objects_done (moving_word end) (args.Cell i ∷ []) (state_of ps cells) ≡ Some (state_of qs cells, Line Empty)
  move_given end r there =
      let w = moved_to ps kinds.List p i there r.old r.was in
      let h = r.changed.items in
      let one : h.0 ≡ w.cell = some_same h.0 w.cell (sym h.1 ∙ w.has) in
      let cell : h.0 ≡ (i, w.cell.1) = one ∙ (λ j. (w.is j, w.cell.1)) in
      move_is end i (state_of ps cells)
      ∙ row_given kinds.List (Move p.item end) r w (move_row end i (state_of ps cells)) (with_end end (i, w.cell.1) (pairs_without i (cells_in r.old.object))) refl
      (ap (map cell_in) h.2 ∙ ended end p.item.serial h.0 (pairs_without p.item.serial (inner r.old.object))
      ∙ (λ j. with_end end (cell j) (without_of cell_in p.item.serial i (inner r.old.object) (agree kinds.List w) j)))
      refl

  -- what is read of it as its priority is that
  pub priority_read : (w : CellAt ps kinds.Queue p i) (n : Named) (x : ℤ) → slice_get ps p.slot ≡ Some (Some n) → IsRead readings.Priority p.item.serial n.object x → x ≡ head_of w.cell.1
  priority_read w n x at got =
      let same : w.cell ≡ got.0 = some_same w.cell got.0 (sym w.has ∙ ap (λ (m : Named). value_at p.item.serial (inner m.object)) (cell_of ps kinds.Queue p i w n at) ∙ got.1) in
      got.2 ∙ ap (λ (z : Cell). head_of z.1) (sym same)

  pub allows_lower : (w : CellAt ps kinds.Queue p i) (v : ℤ) → int_lt (head_of w.cell.1) v ≡ false → Allows (Lower p.item v) w.object.object
  allows_lower w v most = (w.cell, w.has, queue_kind (kind_of w.object.object) w.kind, by_lt_z (head_of w.cell.1) v (λ larger. let no : true ≡ false = sym (int_less (head_of w.cell.1) v larger) ∙ most in cc) (λ le. le))

  pub lower_row : (v : ℤ) (r : Replaces ps qs p.slot (IsChanged (Lower p.item v))) (there : CellAt ps kinds.Queue p i) → int_lt (head_of there.cell.1) v ≡ false
      → objects_done words.Decrease (args.Cell i ∷ args.Num v ∷ []) (state_of ps cells) ≡ Some (state_of qs cells, Line Empty)
  lower_row v r there most =
      let w = moved_to ps kinds.Queue p i there r.old r.was in
      let h = r.changed.items in
      let one : h.0 ≡ w.cell = some_same h.0 w.cell (sym h.1 ∙ w.has) in
      let s : ObjectState = state_of ps cells in
      let cs = pairs_with i (v ∷ inf_of w.cell.1 ∷ []) (cells_in r.old.object) in
      row_given kinds.Queue (Lower p.item v) r w (λ x o vs. decrease i x o vs v s) cs refl
      (ap (map cell_in) h.2
      ∙ with_of cell_in p.item.serial i (h.0.0, v ∷ inf_of h.0.1 ∷ []) (v ∷ inf_of w.cell.1 ∷ []) (λ j. ((ap (λ (c : Cell). c.0) one ∙ w.is) j, v ∷ inf_of (one j).1 ∷ [])) (inner r.old.object) (agree kinds.Queue w))
      (cond_false (int_lt (head_of w.cell.1) v) (refused s (Larger (head_of w.cell.1))) (done (with_cells r.old.name (seen r.old.object) cs s) Empty) most)

  -- a larger priority is refused
  pub larger_row : (v : ℤ) (w : CellAt ps kinds.Queue p i) → int_lt (head_of w.cell.1) v ≡ true
      → objects_done words.Decrease (args.Cell i ∷ args.Num v ∷ []) (state_of ps cells) ≡ Some (state_of ps cells, Refused (Larger (head_of w.cell.1)))
  larger_row v w larger =
      let s : ObjectState = state_of ps cells in
      on_cell_there ps cells kept kinds.Queue i p w (λ x o vs. decrease i x o vs v s)
      ∙ ap Some (cond_true (int_lt (head_of w.cell.1) v) (refused s (Larger (head_of w.cell.1))) (done (with_cells w.object.name (seen w.object.object) (pairs_with i (v ∷ inf_of w.cell.1 ∷ []) (cells_in w.object.object)) s) Empty) larger)

  pub read_row : (what : Reading) (w : CellAt ps (reading_kinds what) p i) → objects_done (reading_word what) (args.Cell i ∷ []) (state_of ps cells) ≡ Some (state_of ps cells, Line (Num (read what w.cell.1)))
  read_row readings.Contents w = on_cell_there ps cells kept kinds.List i p w (λ x o v. done (state_of ps cells) (Num (head_of v)))
  read_row readings.Key w = on_cell_there ps cells kept kinds.Dict i p w (λ x o v. done (state_of ps cells) (Num (head_of v)))
  read_row readings.Priority w = on_cell_there ps cells kept kinds.Queue i p w (λ x o v. done (state_of ps cells) (Num (head_of v)))
  read_row readings.Information w = on_cell_there ps cells kept kinds.DictOrQueue i p w (λ x o v. done (state_of ps cells) (Num (inf_of v)))

-- a list is turned round
pub turn_row : (ps qs : Places) (cells : Contents Place) (kept : IsKept ps cells) (k : ℕ) (n : Named) (name : List ℕ) (r : Replaces ps qs k (IsChanged Turn)) → slice_get ps k ≡ Some (Some n) → n.name ≡ name → has_object (state_of ps cells) kinds.List name ≡ true
    → objects_done words.ReverseItems (args.Name name ∷ []) (state_of ps cells) ≡ Some (state_of qs cells, Line Empty)
turn_row ps qs cells kept k n name r at is has =
    let s : ObjectState = state_of ps cells in
    let both : Some (Some n) ≡ Some (Some r.old) = sym at ∙ r.was in
    let one : n ≡ r.old = cc in
    let named : r.old.name ≡ name = ap (λ (m : Named). m.name) (sym one) ∙ is in
    on_object_there ps cells kept kinds.List k r.old name (λ o. done (with_cells name o (reverse o.cells) s) Empty) r.was named has
    ∙ (λ j. Some (with_cells (sym named j) (seen r.old.object) (sym (ap (map cell_in) r.changed.items ∙ map_turned cell_in (inner r.old.object)) j) s, Line Empty))
    ∙ ap (λ t. Some (t, Line Empty)) (sym (state_changed ps qs k cells kept Turn r))
