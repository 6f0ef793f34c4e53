-- The object has the items without that of the number.
use Rattle.std.proofs.Common.{ℕ, List, Some, sym, ap, ◌∙◌, inr}
use Rattle.std.specs.Prelude.{ℤ}
use Rattle.item_list.specs.Items.{pairs_without}
use Rattle.script_text.specs.declared.form.Kinds.TheVariants as kinds
use Rattle.reply_text.specs.declared.reply.Reply.TheVariants.{Line}
use Rattle.reply_text.specs.declared.reply.ReplyLine.TheVariants.{Empty}
use Rattle.reply_text.specs.Outcome.{Outcome, done}
use Rattle.object_store.specs.State.{Object, ObjectState}
use Rattle.object_store.specs.Commands.{with_cells}
use Rattle.object_store.specs.Kept.{state_of}
use Rattle.object_store.proofs.Leads.{cell_found, cell_at, on_cell_there}
use Rattle.object_store.proofs.edits.delete.Goals as goal

pub unreachable-requires : goal.unreachable-requires
unreachable-requires c = cell_found c.args.slots.now c.args.cells.now c.requires.kept kinds.Container c.args.number c.requires.there (sym c.in_default.ensures)

pub leave-requires-clause-there : goal.leave-requires-clause-there
leave-requires-clause-there c = sym c.place_of.ensures ∙ c.in-Some.is

pub returns-clause-leads : goal.returns-clause-leads
returns-clause-leads c =
    let w = cell_at c.args.slots.now c.args.cells.now c.requires.kept kinds.Container c.args.number c.in-Some.place c.requires.there (sym c.place_of.ensures ∙ c.in-Some.is) in
    let s : ObjectState = state_of c.args.slots.now c.args.cells.now in
    let f : List ℕ → Object → List ℤ → Outcome ObjectState = λ x o v. done (with_cells x o (pairs_without c.args.number o.cells) s) Empty in
    inr (on_cell_there c.args.slots.now c.args.cells.now c.requires.kept kinds.Container c.args.number c.in-Some.place w f
    ∙ ap (λ (t : ObjectState). Some (t, Line Empty)) (sym (c.leave.ensures.state w.object w.at)))
