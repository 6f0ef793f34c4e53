-- The item is there, and holds what is read.
use Rattle.std.proofs.Common.{◌≡◌, [], ◌∷◌, Some, sym, ap, ◌∙◌, rules, w64}
use Rattle.std.specs.Prelude.{slice_get, FitsSigned}
use Rattle.std.proofs.lemmas.Int.{to_z-of_z}
use Rattle.script_text.specs.declared.argument.Arg.TheVariants as args
use Rattle.reply_text.specs.declared.reply.Reply.TheVariants.{Line}
use Rattle.reply_text.specs.declared.reply.ReplyLine.TheVariants.{Num}
use Rattle.object_store.specs.State.{Cell, ObjectState}
use Rattle.object_store.specs.Commands.{objects_done}
use Rattle.object_store.specs.Views.{holds_cell}
use Rattle.object_store.specs.Words.{read, reading_word, reading_kinds}
use Rattle.object_store.specs.Kept.{Places}
use Rattle.object_store.proofs.Edited.{moved_to, read_row}
use Rattle.object_store.proofs.Leads.{cell_found, cell_at}
use Rattle.object_store.proofs.objects.Objects.read.Goals as goal

some_same : {A : Type 0} (a b : A) → Some a ≡ Some b → a ≡ b
some_same a b e = cc

pub unreachable-requires : goal.unreachable-requires
unreachable-requires c =
    let a = c.self.inside in
    cell_found a.slots.items a.cells c.self.invariant (reading_kinds c.args.what) c.args.number (ap (λ (s : ObjectState). holds_cell s (reading_kinds c.args.what) c.args.number) c.self.view_is ∙ c.requires) (sym c.in_default.ensures)

pub read_at-value-requires : goal.read_at-value-requires
read_at-value-requires c =
    let a = c.self.inside in
    let w = cell_at a.slots.items a.cells c.self.invariant (reading_kinds c.args.what) c.args.number c.in-Some.place (ap (λ (s : ObjectState). holds_cell s (reading_kinds c.args.what) c.args.number) c.self.view_is ∙ c.requires) (sym c.place_of.ensures ∙ c.in-Some.is) in
    (w.object, ap (λ (ps : Places). slice_get ps c.in-Some.place.slot) c.as_slice.ensures.value ∙ w.at, record { cell = w.cell; there = w.has; distinct = (c.self.invariant.sound c.in-Some.place.slot w.object w.at).distinct; kind = w.kind })

pub returns-clause-leads : goal.returns-clause-leads
returns-clause-leads c =
    let a = c.self.inside in
    let there = cell_at a.slots.items a.cells c.self.invariant (reading_kinds c.args.what) c.args.number c.in-Some.place (ap (λ (s : ObjectState). holds_cell s (reading_kinds c.args.what) c.args.number) c.self.view_is ∙ c.requires) (sym c.place_of.ensures ∙ c.in-Some.is) in
    let got = c.read_at-value.ensures in
    let w = moved_to a.slots.items (reading_kinds c.args.what) c.in-Some.place c.args.number there got.0 (ap (λ (ps : Places). slice_get ps c.in-Some.place.slot) (sym c.as_slice.ensures.value) ∙ got.1) in
    let fits : FitsSigned w64 c.read_at-value.result = search rules in
    let one : w.cell ≡ got.2.0 = some_same w.cell got.2.0 (sym w.has ∙ got.2.1) in
    ap (λ (s : ObjectState). objects_done (reading_word c.args.what) (args.Cell c.args.number ∷ []) s) (sym c.self.view_is)
    ∙ read_row a.slots.items a.slots.items a.cells c.self.invariant c.in-Some.place c.args.number c.args.what w
    ∙ (λ j. Some (c.self.view_is j, Line (Num ((ap (λ (z : Cell). read c.args.what z.1) one ∙ sym got.2.2) j))))
    ∙ ap (λ z. Some (c.args.self.now, Line (Num z))) (sym (to_z-of_z w64 c.read_at-value.result fits))
