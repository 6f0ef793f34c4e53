-- The item is there, and then holds what is written.
use Rattle.std.proofs.Common.{false, [], ◌∷◌, refl, sym, ap, subst, ◌∙◌, inr, w64, to_z, of_z}
use Rattle.std.specs.Prelude.{slice_get}
use Rattle.std.proofs.lemmas.Int.{to_z-of_z}
use Rattle.item_queue.proofs.Written.{items_back}
use Rattle.script_text.specs.declared.argument.Arg.TheVariants as args
use Rattle.reply_text.specs.declared.reply.Reply.TheVariants.{Line}
use Rattle.reply_text.specs.declared.reply.ReplyLine.TheVariants.{Empty}
use Rattle.object_store.specs.declared.change.Change.TheVariants.{Write}
use Rattle.object_store.specs.State.{ObjectState}
use Rattle.object_store.specs.Views.{holds_cell}
use Rattle.object_store.specs.Words.{writing_word, writing_kinds}
use Rattle.object_store.specs.Change.{IsChanged}
use Rattle.object_store.specs.Kept.{Places, state_of, IsKept, Replaces}
use Rattle.object_store.proofs.Changes.{kept_changed}
use Rattle.object_store.proofs.Edited.{moved_to, write_row}
use Rattle.object_store.proofs.Leads.{cell_found, cell_at, led}
use Rattle.object_store.proofs.objects.Objects.write.Goals as goal

pub unreachable-requires : goal.unreachable-requires
unreachable-requires c =
    let a = c.self.inside in
    cell_found a.slots.items a.cells c.self.invariant (writing_kinds c.args.what) c.args.number (ap (λ (s : ObjectState). holds_cell s (writing_kinds c.args.what) c.args.number) c.self.view_is ∙ c.requires) (sym c.in_default.ensures)

pub change-requires : goal.change-requires
change-requires c =
    let a = c.self.inside in
    let w = cell_at a.slots.items a.cells c.self.invariant (writing_kinds c.args.what) c.args.number c.in-Some.place (ap (λ (s : ObjectState). holds_cell s (writing_kinds c.args.what) c.args.number) c.self.view_is ∙ c.requires) (sym c.place_of.ensures ∙ c.in-Some.is) in
    (w.object, ap (λ (ps : Places). slice_get ps c.in-Some.place.slot) c.as_mut_slice.ensures.value ∙ w.at, (w.cell, w.has, w.is))

pub invariant_of-self : goal.invariant_of-self
invariant_of-self c =
    let a = c.self.inside in
    let zs = c.change.new.slots in
    let r = subst (λ (ps : Places). Replaces ps zs c.in-Some.place.slot (IsChanged (Write c.in-Some.place.item (record { number = c.args.number; value = to_z w64 (of_z w64 c.args.value) })))) c.as_mut_slice.ensures.value c.change.ensures in
    let there = cell_at a.slots.items a.cells c.self.invariant (writing_kinds c.args.what) c.args.number c.in-Some.place (ap (λ (s : ObjectState). holds_cell s (writing_kinds c.args.what) c.args.number) c.self.view_is ∙ c.requires) (sym c.place_of.ensures ∙ c.in-Some.is) in
    let w = moved_to a.slots.items (writing_kinds c.args.what) c.in-Some.place c.args.number there r.old r.was in
    subst (λ (ps : Places). IsKept ps a.cells) (sym (items_back a.slots zs (c.change.auto.slots ∙ c.as_mut_slice.ensures.len)))
    (kept_changed a.slots.items zs c.in-Some.place.slot a.cells c.self.invariant (Write c.in-Some.place.item (record { number = c.args.number; value = to_z w64 (of_z w64 c.args.value) })) r (w.cell, w.has, w.is))

pub returns-clause-leads : goal.returns-clause-leads
returns-clause-leads c =
    let a = c.self.inside in
    let zs = c.change.new.slots in
    let r = subst (λ (ps : Places). Replaces ps zs c.in-Some.place.slot (IsChanged (Write c.in-Some.place.item (record { number = c.args.number; value = to_z w64 (of_z w64 c.args.value) })))) c.as_mut_slice.ensures.value c.change.ensures in
    let there = cell_at a.slots.items a.cells c.self.invariant (writing_kinds c.args.what) c.args.number c.in-Some.place (ap (λ (s : ObjectState). holds_cell s (writing_kinds c.args.what) c.args.number) c.self.view_is ∙ c.requires) (sym c.place_of.ensures ∙ c.in-Some.is) in
    led false (writing_word c.args.what) (args.Cell c.args.number ∷ args.Num c.args.value ∷ []) (state_of a.slots.items a.cells) c.args.self.now (state_of zs a.cells) _ (Line Empty) c.self.view_is
    (ap (λ (ps : Places). state_of ps a.cells) (sym (items_back a.slots zs (c.change.auto.slots ∙ c.as_mut_slice.ensures.len))))
    (inr (write_row a.slots.items zs a.cells c.self.invariant c.in-Some.place c.args.number c.args.what c.args.value (record { number = c.args.number; value = to_z w64 (of_z w64 c.args.value) }) refl (to_z-of_z w64 c.args.value c.ranges.value) r there))
