-- The item is there, and then has the priority, or the priority is larger.
use Rattle.std.proofs.Common.{◌≡◌, Bool, true, false, [], ◌∷◌, Some, sym, ap, subst, ◌∙◌, inr, w64, to_z, of_z, rules}
use Rattle.std.specs.Prelude.{ℤ, int_lt, slice_get, FitsSigned}
use Rattle.std.proofs.lemmas.Int.{to_z-of_z}
use Rattle.item_queue.proofs.Written.{items_back}
use Rattle.script_text.specs.declared.argument.Arg.TheVariants as args
use Rattle.script_text.specs.declared.form.Kinds.TheVariants as kinds
use Rattle.script_text.specs.declared.word.ObjectWord.TheVariants as words
use Rattle.reply_text.specs.declared.reply.Reply.TheVariants.{Line, Refused}
use Rattle.reply_text.specs.declared.reply.ReplyLine.TheVariants.{Empty}
use Rattle.reply_text.specs.declared.refusal.Refusal.TheVariants.{Larger}
use Rattle.object_store.specs.declared.change.Change.TheVariants.{Lower}
use Rattle.object_store.specs.State.{ObjectState}
use Rattle.object_store.specs.Change.{IsChanged, Allows}
use Rattle.object_store.specs.Commands.{objects_done}
use Rattle.object_store.specs.Kept.{Places, state_of, IsKept, Replaces}
use Rattle.object_store.specs.Views.{holds_cell}
use Rattle.object_store.proofs.Changes.{kept_changed}
use Rattle.object_store.proofs.Edited.{moved_to, priority_read, allows_lower, lower_row, larger_row}
use Rattle.object_store.proofs.Leads.{cell_found, cell_at, led}
use Rattle.object_store.proofs.objects.Objects.decrease.Goals as goal

pub unreachable-requires : goal.unreachable-requires
unreachable-requires c =
    let a = c.self.inside in
    cell_found a.slots.items a.cells c.self.invariant kinds.Queue c.args.number (ap (λ (s : ObjectState). holds_cell s kinds.Queue c.args.number) c.self.view_is ∙ c.requires) (sym c.in_default.ensures)

pub read_at-present-requires : goal.read_at-present-requires
read_at-present-requires c =
    let a = c.self.inside in
    let w = cell_at a.slots.items a.cells c.self.invariant kinds.Queue c.args.number c.in-Some.place (ap (λ (s : ObjectState). holds_cell s kinds.Queue c.args.number) c.self.view_is ∙ c.requires) (sym c.place_of.ensures ∙ c.in-Some.is) in
    (w.object, ap (λ (ps : Places). slice_get ps c.in-Some.place.slot) c.as_slice.ensures.value ∙ w.at, record { cell = w.cell; there = w.has; distinct = (c.self.invariant.sound c.in-Some.place.slot w.object w.at).distinct; kind = w.kind })

-- the test is one of numbers as they stand
plain : (x v : ℤ) (b : Bool) → FitsSigned w64 x → FitsSigned w64 v → int_lt (to_z w64 (of_z w64 x)) (to_z w64 (of_z w64 v)) ≡ b → int_lt x v ≡ b
plain x v b fx fv test = (λ i. int_lt (sym (to_z-of_z w64 x fx) i) (sym (to_z-of_z w64 v fv) i)) ∙ test

pub change-requires : goal.change-requires
change-requires c =
    let a = c.self.inside in
    let p = c.in-Some.place in
    let w = cell_at a.slots.items a.cells c.self.invariant kinds.Queue c.args.number p (ap (λ (s : ObjectState). holds_cell s kinds.Queue c.args.number) c.self.view_is ∙ c.requires) (sym c.place_of.ensures ∙ c.in-Some.is) in
    let got = c.read_at-present.ensures in
    let x = c.read_at-present.result in
    let fits : FitsSigned w64 x = search rules in
    let is = priority_read a.slots.items a.slots.items a.cells c.self.invariant p c.args.number w got.0 x (ap (λ (ps : Places). slice_get ps p.slot) (sym c.as_slice.ensures.value) ∙ got.1) got.2 in
    let most = ap (λ y. int_lt y c.args.priority) (sym is) ∙ plain x c.args.priority false fits c.ranges.priority c.if-present-priority.false in (
      w.object,
      ap (λ (ps : Places). slice_get ps p.slot) c.as_mut_slice.ensures.value ∙ w.at,
      subst (λ v. Allows (Lower p.item v) w.object.object) (sym (to_z-of_z w64 c.args.priority c.ranges.priority)) (allows_lower a.slots.items a.slots.items a.cells c.self.invariant p c.args.number w c.args.priority most),
    )

pub returns-then-present-priority-clause-leads : goal.returns-then-present-priority-clause-leads
returns-then-present-priority-clause-leads c =
    let a = c.self.inside in
    let p = c.in-Some.place in
    let w = cell_at a.slots.items a.cells c.self.invariant kinds.Queue c.args.number p (ap (λ (s : ObjectState). holds_cell s kinds.Queue c.args.number) c.self.view_is ∙ c.requires) (sym c.place_of.ensures ∙ c.in-Some.is) in
    let got = c.read_at-present.ensures in
    let x = c.read_at-present.result in
    let fits : FitsSigned w64 x = search rules in
    let is = priority_read a.slots.items a.slots.items a.cells c.self.invariant p c.args.number w got.0 x (ap (λ (ps : Places). slice_get ps p.slot) (sym c.as_slice.ensures.value) ∙ got.1) got.2 in
    let larger = ap (λ y. int_lt y c.args.priority) (sym is) ∙ plain x c.args.priority true fits c.ranges.priority c.if-present-priority.true in
    inr (ap (λ (s : ObjectState). objects_done words.Decrease (args.Cell c.args.number ∷ args.Num c.args.priority ∷ []) s) (sym c.self.view_is)
    ∙ larger_row a.slots.items a.slots.items a.cells c.self.invariant p c.args.number c.args.priority w larger
    ∙ (λ j. Some (c.self.view_is j, Refused (Larger ((sym is ∙ sym (to_z-of_z w64 x fits)) j)))))

pub invariant_of-self : goal.invariant_of-self
invariant_of-self c =
    let a = c.self.inside in
    let p = c.in-Some.place in
    let zs = c.change.new.slots in
    let there = cell_at a.slots.items a.cells c.self.invariant kinds.Queue c.args.number p (ap (λ (s : ObjectState). holds_cell s kinds.Queue c.args.number) c.self.view_is ∙ c.requires) (sym c.place_of.ensures ∙ c.in-Some.is) in
    let got = c.read_at-present.ensures in
    let x = c.read_at-present.result in
    let fits : FitsSigned w64 x = search rules in
    let is = priority_read a.slots.items a.slots.items a.cells c.self.invariant p c.args.number there got.0 x (ap (λ (ps : Places). slice_get ps p.slot) (sym c.as_slice.ensures.value) ∙ got.1) got.2 in
    let most = ap (λ y. int_lt y c.args.priority) (sym is) ∙ plain x c.args.priority false fits c.ranges.priority c.if-present-priority.false in
    let r = subst (λ v. Replaces a.slots.items zs p.slot (IsChanged (Lower p.item v))) (to_z-of_z w64 c.args.priority c.ranges.priority)
    (subst (λ (ps : Places). Replaces ps zs p.slot (IsChanged (Lower p.item (to_z w64 (of_z w64 c.args.priority))))) c.as_mut_slice.ensures.value c.change.ensures) in
    let w = moved_to a.slots.items kinds.Queue p c.args.number there r.old r.was in
    subst (λ (ps : Places). IsKept ps a.cells) (sym (items_back a.slots zs (c.change.auto.slots ∙ c.as_mut_slice.ensures.len)))
    (kept_changed a.slots.items zs p.slot a.cells c.self.invariant (Lower p.item c.args.priority) r (allows_lower a.slots.items zs a.cells c.self.invariant p c.args.number w c.args.priority most))

pub returns-clause-leads : goal.returns-clause-leads
returns-clause-leads c =
    let a = c.self.inside in
    let p = c.in-Some.place in
    let zs = c.change.new.slots in
    let there = cell_at a.slots.items a.cells c.self.invariant kinds.Queue c.args.number p (ap (λ (s : ObjectState). holds_cell s kinds.Queue c.args.number) c.self.view_is ∙ c.requires) (sym c.place_of.ensures ∙ c.in-Some.is) in
    let got = c.read_at-present.ensures in
    let x = c.read_at-present.result in
    let fits : FitsSigned w64 x = search rules in
    let is = priority_read a.slots.items a.slots.items a.cells c.self.invariant p c.args.number there got.0 x (ap (λ (ps : Places). slice_get ps p.slot) (sym c.as_slice.ensures.value) ∙ got.1) got.2 in
    let most = ap (λ y. int_lt y c.args.priority) (sym is) ∙ plain x c.args.priority false fits c.ranges.priority c.if-present-priority.false in
    let r = subst (λ v. Replaces a.slots.items zs p.slot (IsChanged (Lower p.item v))) (to_z-of_z w64 c.args.priority c.ranges.priority)
    (subst (λ (ps : Places). Replaces ps zs p.slot (IsChanged (Lower p.item (to_z w64 (of_z w64 c.args.priority))))) c.as_mut_slice.ensures.value c.change.ensures) in
    led false words.Decrease (args.Cell c.args.number ∷ args.Num c.args.priority ∷ []) (state_of a.slots.items a.cells) c.args.self.now (state_of zs a.cells) _ (Line Empty) c.self.view_is
    (ap (λ (ps : Places). state_of ps a.cells) (sym (items_back a.slots zs (c.change.auto.slots ∙ c.as_mut_slice.ensures.len))))
    (inr (lower_row a.slots.items zs a.cells c.self.invariant p c.args.number c.args.priority r there most))
