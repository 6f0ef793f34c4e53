-- The places and the pool stand for the objects.
use Rattle.std.proofs.Common.{true, [], ◌∷◌, sym, ap, subst, ◌∙◌, w64}
use Rattle.std.specs.Prelude.{ℤ, Option}
use Rattle.std.proofs.lemmas.Int.{to_z-of_z}
use Rattle.item_queue.proofs.Written.{items_back}
use Rattle.script_text.specs.declared.argument.Arg.TheVariants as args
use Rattle.script_text.specs.declared.form.Kinds.TheVariants as kinds
use Rattle.object_store.specs.State.{ObjectState}
use Rattle.reply_text.specs.Outcome.{Outcome}
use Rattle.object_store.specs.Commands.{on_cell, enters, next}
use Rattle.object_store.specs.Entrance.{with_beside}
use Rattle.object_store.specs.Views.{holds_cell}
use Rattle.object_store.specs.Words.{inserting_word}
use Rattle.object_store.specs.Kept.{Places, state_of, IsKept}
use Rattle.object_store.specs.Leads.{Leads}
use Rattle.object_store.proofs.Leads.{led}
use Rattle.object_store.proofs.Putting.{insert_is}
use Rattle.object_store.proofs.objects.Objects.insert.Goals as goal

pub put_beside-requires-clause-kept : goal.put_beside-requires-clause-kept
put_beside-requires-clause-kept c = subst (λ (ps : Places). IsKept ps c.self.inside.cells) (sym c.as_mut_slice.ensures.value) c.self.invariant

pub put_beside-requires-clause-there : goal.put_beside-requires-clause-there
put_beside-requires-clause-there c =
    ap (λ (ps : Places). holds_cell (state_of ps c.self.inside.cells) kinds.List c.args.number) c.as_mut_slice.ensures.value
    ∙ ap (λ (s : ObjectState). holds_cell s kinds.List c.args.number) c.self.view_is ∙ c.requires

pub invariant_of-self : goal.invariant_of-self
invariant_of-self c =
    let zs = c.put_beside.new.slots in
    subst (λ (ps : Places). IsKept ps c.put_beside.new.cells) (sym (items_back c.self.inside.slots zs (c.put_beside.auto.slots ∙ c.as_mut_slice.ensures.len))) c.put_beside.ensures.kept

pub returns-clause-leads : goal.returns-clause-leads
returns-clause-leads c =
    let a = c.self.inside in
    let ws = c.as_mut_slice.result.now in
    let zs = c.put_beside.new.slots in
    let after = c.put_beside.new.cells in
    let row : ObjectState → ℤ → Option (Outcome ObjectState) = λ s v. on_cell s kinds.List c.args.number (λ x o old. enters x o (with_beside c.args.side c.args.number (next (v ∷ []) s) o.cells) s) in
    led true (inserting_word c.args.side) (args.Cell c.args.number ∷ args.Num c.args.value ∷ []) (state_of ws a.cells) c.args.self.now (state_of zs after) _ c.put_beside.result
    (ap (λ (ps : Places). state_of ps a.cells) c.as_mut_slice.ensures.value ∙ c.self.view_is)
    (ap (λ (ps : Places). state_of ps after) (sym (items_back a.slots zs (c.put_beside.auto.slots ∙ c.as_mut_slice.ensures.len))))
    (subst (λ given. Leads true given (state_of ws a.cells) c.put_beside.result (state_of zs after)) (insert_is c.args.side c.args.number c.args.value (state_of ws a.cells))
    (subst (λ (z : ℤ). Leads true (row (state_of ws a.cells) z) (state_of ws a.cells) c.put_beside.result (state_of zs after)) (to_z-of_z w64 c.args.value c.ranges.value) c.put_beside.ensures.leads))
