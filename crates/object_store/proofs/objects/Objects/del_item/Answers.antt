-- The places and the pool stand for the objects.
use Rattle.std.proofs.Common.{false, [], ◌∷◌, sym, ap, subst, ◌∙◌}
use Rattle.item_queue.proofs.Written.{items_back}
use Rattle.script_text.specs.declared.argument.Arg.TheVariants as args
use Rattle.script_text.specs.declared.form.Kinds.TheVariants as kinds
use Rattle.script_text.specs.declared.word.ObjectWord.TheVariants as words
use Rattle.object_store.specs.State.{ObjectState}
use Rattle.object_store.specs.Views.{holds_cell}
use Rattle.object_store.specs.Kept.{Places, state_of, IsKept}
use Rattle.object_store.proofs.Leads.{led}
use Rattle.object_store.proofs.objects.Objects.del_item.Goals as goal

pub delete-requires-clause-kept : goal.delete-requires-clause-kept
delete-requires-clause-kept c = subst (λ (ps : Places). IsKept ps c.self.inside.cells) (sym c.as_mut_slice.ensures.value) c.self.invariant

pub delete-requires-clause-there : goal.delete-requires-clause-there
delete-requires-clause-there c =
    ap (λ (ps : Places). holds_cell (state_of ps c.self.inside.cells) kinds.Container c.args.number) c.as_mut_slice.ensures.value
    ∙ ap (λ (s : ObjectState). holds_cell s kinds.Container c.args.number) c.self.view_is ∙ c.requires

pub invariant_of-self : goal.invariant_of-self
invariant_of-self c =
    let zs = c.delete.new.slots in
    subst (λ (ps : Places). IsKept ps c.delete.new.cells) (sym (items_back c.self.inside.slots zs (c.delete.auto.slots ∙ c.as_mut_slice.ensures.len))) c.delete.ensures.kept

pub returns-clause-leads : goal.returns-clause-leads
returns-clause-leads c =
    let a = c.self.inside in
    let ws = c.as_mut_slice.result.now in
    let zs = c.delete.new.slots in
    let after = c.delete.new.cells in
    led false words.DelItem (args.Cell c.args.number ∷ []) (state_of ws a.cells) c.args.self.now (state_of zs after) _ c.delete.result
    (ap (λ (ps : Places). state_of ps a.cells) c.as_mut_slice.ensures.value ∙ c.self.view_is)
    (ap (λ (ps : Places). state_of ps after) (sym (items_back a.slots zs (c.delete.auto.slots ∙ c.as_mut_slice.ensures.len))))
    c.delete.ensures.leads
