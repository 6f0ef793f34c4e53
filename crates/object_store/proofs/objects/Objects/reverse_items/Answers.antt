-- The list of the name is turned round.
use Rattle.std.proofs.Common.{◌≡◌, false, [], ◌∷◌, Some, sym, ap, subst, ◌∙◌, inr}
use Rattle.std.specs.Prelude.{slice_get}
use Rattle.item_queue.proofs.Written.{items_back}
use Rattle.script_text.specs.declared.argument.Arg.TheVariants as args
use Rattle.script_text.specs.declared.form.Kinds.TheVariants as kinds
use Rattle.reply_text.specs.declared.reply.Reply.TheVariants.{Line}
use Rattle.reply_text.specs.declared.reply.ReplyLine.TheVariants.{Empty}
use Rattle.object_store.specs.declared.change.Change.TheVariants.{Turn}
use Rattle.script_text.specs.declared.word.ObjectWord.TheVariants as words
use Rattle.object_store.specs.State.{ObjectState}
use Rattle.object_store.specs.Views.{has_object}
use Rattle.object_store.specs.Change.{IsChanged}
use Rattle.object_store.specs.declared.slots.Named.{Named}
use Rattle.object_store.specs.Slots.{found}
use Rattle.object_store.specs.Kept.{Places, state_of, IsKept, Replaces}
use Rattle.object_store.proofs.Changes.{kept_changed}
use Rattle.object_store.proofs.Edited.{turn_row}
use Rattle.object_store.proofs.ByKind.{list_kind}
use Rattle.object_store.proofs.Leads.{name_found, kind_there, led}
use Rattle.object_store.proofs.Places.{named_at}
use Rattle.object_store.proofs.objects.Objects.reverse_items.Goals as goal

pub unreachable-requires : goal.unreachable-requires
unreachable-requires c =
    let a = c.self.inside in
    name_found a.slots.items a.cells c.self.invariant kinds.List c.args.name.now (ap (λ (s : ObjectState). has_object s kinds.List c.args.name.now) c.self.view_is ∙ c.requires) (ap (λ (ps : Places). found c.args.name.now ps) (sym c.as_slice.ensures.value) ∙ c.in_default.ensures)

pub change-requires : goal.change-requires
change-requires c =
    let a = c.self.inside in
    let w = named_at a.slots.items c.as_slice.result.now c.args.name.now c.in-Some.slot c.as_slice.ensures.value c.in-Some.ensures in
    let kind = kind_there a.slots.items a.cells c.self.invariant kinds.List c.in-Some.slot w.0 c.args.name.now w.1 w.2 (ap (λ (s : ObjectState). has_object s kinds.List c.args.name.now) c.self.view_is ∙ c.requires) in
    (w.0, ap (λ (ps : Places). slice_get ps c.in-Some.slot) c.as_mut_slice.ensures.value ∙ w.1, list_kind _ kind)

pub invariant_of-self : goal.invariant_of-self
invariant_of-self c =
    let a = c.self.inside in
    let zs = c.change.new.slots in
    let r = subst (λ (ps : Places). Replaces ps zs c.in-Some.slot (IsChanged Turn)) c.as_mut_slice.ensures.value c.change.ensures in
    let w = named_at a.slots.items c.as_slice.result.now c.args.name.now c.in-Some.slot c.as_slice.ensures.value c.in-Some.ensures in
    let both : Some (Some w.0) ≡ Some (Some r.old) = sym w.1 ∙ r.was in
    let one : w.0 ≡ r.old = cc in
    let kind = kind_there a.slots.items a.cells c.self.invariant kinds.List c.in-Some.slot r.old c.args.name.now r.was (ap (λ (m : Named). m.name) (sym one) ∙ w.2) (ap (λ (s : ObjectState). has_object s kinds.List c.args.name.now) c.self.view_is ∙ c.requires) in
    subst (λ (ps : Places). IsKept ps a.cells) (sym (items_back a.slots zs (c.change.auto.slots ∙ c.as_mut_slice.ensures.len)))
    (kept_changed a.slots.items zs c.in-Some.slot a.cells c.self.invariant Turn r (list_kind _ kind))

pub returns-clause-leads : goal.returns-clause-leads
returns-clause-leads c =
    let a = c.self.inside in
    let zs = c.change.new.slots in
    let r = subst (λ (ps : Places). Replaces ps zs c.in-Some.slot (IsChanged Turn)) c.as_mut_slice.ensures.value c.change.ensures in
    let w = named_at a.slots.items c.as_slice.result.now c.args.name.now c.in-Some.slot c.as_slice.ensures.value c.in-Some.ensures in
    led false words.ReverseItems (args.Name c.args.name.now ∷ []) (state_of a.slots.items a.cells) c.args.self.now (state_of zs a.cells) _ (Line Empty) c.self.view_is
    (ap (λ (ps : Places). state_of ps a.cells) (sym (items_back a.slots zs (c.change.auto.slots ∙ c.as_mut_slice.ensures.len))))
    (inr (turn_row a.slots.items zs a.cells c.self.invariant c.in-Some.slot w.0 c.args.name.now r w.1 w.2 (ap (λ (s : ObjectState). has_object s kinds.List c.args.name.now) c.self.view_is ∙ c.requires)))
