-- The list has the item, which then stands at the end.
use Rattle.std.proofs.Common.{false, [], ◌∷◌, sym, ap, subst, ◌∙◌, inr}
use Rattle.std.specs.Prelude.{slice_get}
use Rattle.item_queue.proofs.Written.{items_back}
use Rattle.script_text.specs.declared.argument.Arg.TheVariants as args
use Rattle.script_text.specs.declared.form.Kinds.TheVariants as kinds
use Rattle.reply_text.specs.declared.reply.Reply.TheVariants.{Line}
use Rattle.reply_text.specs.declared.reply.ReplyLine.TheVariants.{Empty}
use Rattle.object_store.specs.declared.change.Change.TheVariants.{Move}
use Rattle.object_store.specs.State.{ObjectState}
use Rattle.object_store.specs.Views.{holds_cell}
use Rattle.object_store.specs.Words.{moving_word}
use Rattle.object_store.specs.Change.{IsChanged}
use Rattle.object_store.specs.Kept.{Places, state_of, IsKept, Replaces}
use Rattle.object_store.proofs.Changes.{kept_changed}
use Rattle.object_store.proofs.Edited.{moved_to, move_given}
use Rattle.object_store.proofs.ByKind.{list_kind}
use Rattle.object_store.proofs.Leads.{cell_found, cell_at, led}
use Rattle.object_store.proofs.objects.Objects.move_to.Goals as goal

pub unreachable-requires : goal.unreachable-requires
unreachable-requires c =
    let a = c.self.inside in
    cell_found a.slots.items a.cells c.self.invariant kinds.List c.args.number (ap (λ (s : ObjectState). holds_cell s kinds.List c.args.number) c.self.view_is ∙ c.requires) (sym c.in_default.ensures)

pub change-requires : goal.change-requires
change-requires c =
    let a = c.self.inside in
    let w = cell_at a.slots.items a.cells c.self.invariant kinds.List c.args.number c.in-Some.place (ap (λ (s : ObjectState). holds_cell s kinds.List c.args.number) c.self.view_is ∙ c.requires) (sym c.place_of.ensures ∙ c.in-Some.is) in
    (w.object, ap (λ (ps : Places). slice_get ps c.in-Some.place.slot) c.as_mut_slice.ensures.value ∙ w.at, (w.cell, w.has, list_kind _ w.kind))

pub invariant_of-self : goal.invariant_of-self
invariant_of-self c =
    let a = c.self.inside in
    let zs = c.change.new.slots in
    let r = subst (λ (ps : Places). Replaces ps zs c.in-Some.place.slot (IsChanged (Move c.in-Some.place.item c.args.end))) c.as_mut_slice.ensures.value c.change.ensures in
    let there = cell_at a.slots.items a.cells c.self.invariant kinds.List c.args.number c.in-Some.place (ap (λ (s : ObjectState). holds_cell s kinds.List c.args.number) c.self.view_is ∙ c.requires) (sym c.place_of.ensures ∙ c.in-Some.is) in
    let w = moved_to a.slots.items kinds.List c.in-Some.place c.args.number there r.old r.was in
    subst (λ (ps : Places). IsKept ps a.cells) (sym (items_back a.slots zs (c.change.auto.slots ∙ c.as_mut_slice.ensures.len)))
    (kept_changed a.slots.items zs c.in-Some.place.slot a.cells c.self.invariant (Move c.in-Some.place.item c.args.end) r (w.cell, w.has, list_kind _ w.kind))

pub returns-clause-leads : goal.returns-clause-leads
returns-clause-leads c =
    let a = c.self.inside in
    let zs = c.change.new.slots in
    let r = subst (λ (ps : Places). Replaces ps zs c.in-Some.place.slot (IsChanged (Move c.in-Some.place.item c.args.end))) c.as_mut_slice.ensures.value c.change.ensures in
    let there = cell_at a.slots.items a.cells c.self.invariant kinds.List c.args.number c.in-Some.place (ap (λ (s : ObjectState). holds_cell s kinds.List c.args.number) c.self.view_is ∙ c.requires) (sym c.place_of.ensures ∙ c.in-Some.is) in
    led false (moving_word c.args.end) (args.Cell c.args.number ∷ []) (state_of a.slots.items a.cells) c.args.self.now (state_of zs a.cells) _ (Line Empty) c.self.view_is
    (ap (λ (ps : Places). state_of ps a.cells) (sym (items_back a.slots zs (c.change.auto.slots ∙ c.as_mut_slice.ensures.len))))
    (inr (move_given a.slots.items zs a.cells c.self.invariant c.in-Some.place c.args.number c.args.end r there))
