-- The container of the name has these items.
use Rattle.std.proofs.Common.{◌≡◌, [], ◌∷◌, Some, sym, ap, ◌∙◌, map, inr}
use Rattle.std.specs.Prelude.{slice_get}
use Rattle.script_text.specs.declared.argument.Arg.TheVariants as args
use Rattle.script_text.specs.declared.form.Kinds.TheVariants as kinds
use Rattle.script_text.specs.declared.word.ObjectWord.TheVariants as words
use Rattle.reply_text.specs.declared.reply.Reply.TheVariants.{Line}
use Rattle.reply_text.specs.declared.reply.ReplyLine.TheVariants.{Cells}
use Rattle.reply_text.specs.Outcome.{done}
use Rattle.object_store.specs.declared.slots.Named.{Named}
use Rattle.object_store.specs.State.{ObjectState}
use Rattle.object_store.specs.Cells.{listed, shown}
use Rattle.object_store.specs.Commands.{objects_done}
use Rattle.object_store.specs.Views.{has_object}
use Rattle.object_store.specs.Inner.{seen}
use Rattle.object_store.specs.Slots.{found}
use Rattle.object_store.specs.Kept.{Places, state_of}
use Rattle.object_store.proofs.Leads.{name_found, on_object_there}
use Rattle.object_store.proofs.Places.{named_at}
use Rattle.object_store.proofs.objects.Objects.items.Goals as goal

pub unreachable-requires : goal.unreachable-requires
unreachable-requires c =
    let a = c.self.inside in
    name_found a.slots.items a.cells c.self.invariant kinds.Container c.args.name.now (ap (λ (s : ObjectState). has_object s kinds.Container c.args.name.now) c.self.view_is ∙ c.requires) (ap (λ (ps : Places). found c.args.name.now ps) (sym c.as_slice-slots.ensures.value) ∙ c.in_default.ensures)

pub shown_at-requires : goal.shown_at-requires
shown_at-requires c =
    let a = c.self.inside in
    let h = c.in-Some.ensures in
    let w = named_at a.slots.items c.as_slice-slots.result.now c.args.name.now c.in-Some.slot c.as_slice-slots.ensures.value h in
    let sound = c.self.invariant.sound c.in-Some.slot w.0 w.1 in
    (w.0, ap (λ (ps : Places). slice_get ps c.in-Some.slot) c.as_slice-slots.ensures.value ∙ w.1, record { distinct = sound.distinct; given = sound.given; rising = sound.rising })

pub returns-in-Ok-clause-leads : goal.returns-in-Ok-clause-leads
returns-in-Ok-clause-leads c =
    let a = c.self.inside in
    let w = named_at a.slots.items c.as_slice-slots.result.now c.args.name.now c.in-Some.slot c.as_slice-slots.ensures.value c.in-Some.ensures in
    let got = c.in-Ok.ensures in
    let both : Some (Some got.0) ≡ Some (Some w.0) = sym got.1 ∙ ap (λ (ps : Places). slice_get ps c.in-Some.slot) c.as_slice-slots.ensures.value ∙ w.1 in
    let one : got.0 ≡ w.0 = cc in
    let rows : c.in-Ok.cells ≡ map shown (listed (seen w.0.object)) = got.2 ∙ ap (λ (n : Named). map shown (listed (seen n.object))) one in
    let s : ObjectState = state_of a.slots.items a.cells in
    inr (ap (λ (t : ObjectState). objects_done words.Items (args.Name c.args.name.now ∷ []) t) (sym c.self.view_is)
    ∙ on_object_there a.slots.items a.cells c.self.invariant kinds.Container c.in-Some.slot w.0 c.args.name.now (λ o. done s (Cells (map shown (listed o)))) w.1 w.2 (ap (λ (t : ObjectState). has_object t kinds.Container c.args.name.now) c.self.view_is ∙ c.requires)
    ∙ (λ j. Some (c.self.view_is j, Line (Cells (sym rows j)))))
