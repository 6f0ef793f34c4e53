-- The places and the pool stand for the objects.
use Rattle.std.proofs.Common.{false, [], ◌∷◌, sym, ap, subst, ◌∙◌}
use Rattle.item_queue.proofs.Written.{items_back}
use Rattle.script_text.specs.declared.argument.Arg.TheVariants as args
use Rattle.script_text.specs.declared.form.Kinds.TheVariants as kinds
use Rattle.script_text.specs.declared.word.ObjectWord.TheVariants as words
use Rattle.object_store.specs.State.{ObjectState}
use Rattle.object_store.specs.Views.{has_object}
use Rattle.object_store.specs.Kept.{Places, state_of, IsKept}
use Rattle.object_store.proofs.Leads.{led}
use Rattle.object_store.proofs.objects.Objects.drop_object.Goals as goal

pub drop_object-requires-clause-kept : goal.drop_object-requires-clause-kept
drop_object-requires-clause-kept c = subst (λ (ps : Places). IsKept ps c.self.inside.cells) (sym c.as_mut_slice.ensures.value) c.self.invariant

pub drop_object-requires-clause-there : goal.drop_object-requires-clause-there
drop_object-requires-clause-there c =
    ap (λ (ps : Places). has_object (state_of ps c.self.inside.cells) kinds.Any c.args.name.now) c.as_mut_slice.ensures.value
    ∙ ap (λ (s : ObjectState). has_object s kinds.Any c.args.name.now) c.self.view_is ∙ c.requires

pub invariant_of-self : goal.invariant_of-self
invariant_of-self c =
    let zs = c.drop_object.new.slots in
    subst (λ (ps : Places). IsKept ps c.drop_object.new.cells) (sym (items_back c.self.inside.slots zs (c.drop_object.auto.slots ∙ c.as_mut_slice.ensures.len))) c.drop_object.ensures.kept

pub returns-clause-leads : goal.returns-clause-leads
returns-clause-leads c =
    let a = c.self.inside in
    let ws = c.as_mut_slice.result.now in
    let zs = c.drop_object.new.slots in
    let after = c.drop_object.new.cells in
    led false words.DropObject (args.Name c.args.name.now ∷ []) (state_of ws a.cells) c.args.self.now (state_of zs after) _ c.drop_object.result
    (ap (λ (ps : Places). state_of ps a.cells) c.as_mut_slice.ensures.value ∙ c.self.view_is)
    (ap (λ (ps : Places). state_of ps after) (sym (items_back a.slots zs (c.drop_object.auto.slots ∙ c.as_mut_slice.ensures.len))))
    c.drop_object.ensures.leads
