-- The container of the name has so many items.
use Rattle.std.proofs.Common.{◌≡◌, [], ◌∷◌, Some, sym, ap, ◌∙◌, length, rules, w64}
use Rattle.std.specs.Prelude.{FitsSigned}
use Rattle.std.proofs.lemmas.Int.{to_z-of_z}
use Rattle.std.specs.Prelude.{slice_get, pos}
use Rattle.script_text.specs.declared.argument.Arg.TheVariants as args
use Rattle.script_text.specs.declared.form.Kinds.TheVariants as kinds
use Rattle.reply_text.specs.declared.reply.Reply.TheVariants.{Line}
use Rattle.reply_text.specs.declared.reply.ReplyLine.TheVariants.{Num}
use Rattle.reply_text.specs.Outcome.{done}
use Rattle.object_store.specs.declared.slots.Named.{Named}
use Rattle.script_text.specs.declared.word.ObjectWord.TheVariants as words
use Rattle.object_store.specs.State.{ObjectState}
use Rattle.object_store.specs.Commands.{objects_done}
use Rattle.object_store.specs.Views.{has_object}
use Rattle.object_store.specs.Inner.{cells_in}
use Rattle.object_store.specs.Slots.{found}
use Rattle.object_store.specs.Kept.{Places, state_of}
use Rattle.object_store.proofs.Leads.{name_found, on_object_there}
use Rattle.object_store.proofs.Places.{named_at}
use Rattle.object_store.proofs.objects.Objects.size.Goals as goal

pub unreachable-requires : goal.unreachable-requires
unreachable-requires c =
    let a = c.self.inside in
    name_found a.slots.items a.cells c.self.invariant kinds.Container c.args.name.now (ap (λ (s : ObjectState). has_object s kinds.Container c.args.name.now) c.self.view_is ∙ c.requires) (ap (λ (ps : Places). found c.args.name.now ps) (sym c.as_slice-slots.ensures.value) ∙ c.in_default.ensures)

pub returns-clause-leads : goal.returns-clause-leads
returns-clause-leads c =
    let a = c.self.inside in
    let w = named_at a.slots.items c.as_slice-slots.result.now c.args.name.now c.in-Some.slot c.as_slice-slots.ensures.value c.in-Some.ensures in
    let got = c.len_at-len.ensures in
    let both : Some (Some got.0) ≡ Some (Some w.0) = sym got.1 ∙ ap (λ (ps : Places). slice_get ps c.in-Some.slot) c.as_slice-slots.ensures.value ∙ w.1 in
    let one : got.0 ≡ w.0 = cc in
    let fits : FitsSigned w64 c.from.result = search rules in
    let s : ObjectState = state_of a.slots.items a.cells in
    ap (λ (t : ObjectState). objects_done words.Size (args.Name c.args.name.now ∷ []) t) (sym c.self.view_is)
    ∙ on_object_there a.slots.items a.cells c.self.invariant kinds.Container c.in-Some.slot w.0 c.args.name.now (λ o. done s (Num (pos (length o.cells)))) w.1 w.2 (ap (λ (t : ObjectState). has_object t kinds.Container c.args.name.now) c.self.view_is ∙ c.requires)
    ∙ (λ j. Some (c.self.view_is j, Line (Num (pos (sym (got.2 ∙ ap (λ (m : Named). length (cells_in m.object)) one) j)))))
    ∙ ap (λ z. Some (c.args.self.now, Line (Num z))) (sym (to_z-of_z w64 c.from.result fits ∙ c.from.ensures))
