-- The object has no items, and then its place is free.
use Rattle.std.proofs.Common.{◌≡◌, [], Some, sym, ap, ◌∙◌, inr}
use Rattle.script_text.specs.declared.form.Kinds.TheVariants as kinds
use Rattle.reply_text.specs.declared.reply.Reply.TheVariants.{Line}
use Rattle.reply_text.specs.declared.reply.ReplyLine.TheVariants.{Empty}
use Rattle.reply_text.specs.Outcome.{done}
use Rattle.object_store.specs.declared.slots.Named.{Named}
use Rattle.object_store.specs.State.{ObjectState}
use Rattle.object_store.specs.Commands.{without_object}
use Rattle.object_store.specs.Inner.{inner}
use Rattle.object_store.specs.Kept.{state_of}
use Rattle.object_store.proofs.Dropping.{kept_drop, dropped, replaces_any, replaced_there}
use Rattle.object_store.proofs.Leads.{name_found, on_object_there}
use Rattle.object_store.proofs.drop.drop_object.Goals as goal

pub unreachable-requires : goal.unreachable-requires
unreachable-requires c = name_found c.args.slots.now c.args.cells.now c.requires.kept kinds.Any c.args.name.now c.requires.there c.in_default.ensures

pub empty-requires-clause-there : goal.empty-requires-clause-there
empty-requires-clause-there c = (c.in-Some.ensures.0, c.in-Some.ensures.1, tt)

pub returns-clause-kept : goal.returns-clause-kept
returns-clause-kept c =
    let r = c.empty.ensures.bare in
    let qs = c.empty.new.slots in
    kept_drop qs c.empty.new.cells c.empty.ensures.kept c.in-Some.slot r.new (replaced_there c.args.slots.now qs c.in-Some.slot (replaces_any c.args.slots.now qs c.in-Some.slot (λ o t. inner t ≡ []) r)) r.changed

pub returns-clause-leads : goal.returns-clause-leads
returns-clause-leads c =
    let w = c.in-Some.ensures in
    let r = c.empty.ensures.bare in
    let s : ObjectState = state_of c.args.slots.now c.args.cells.now in
    let both : Some (Some w.0) ≡ Some (Some r.old) = sym w.1 ∙ r.was in
    let one : w.0 ≡ r.old = cc in
    let named : r.old.name ≡ c.args.name.now = ap (λ (m : Named). m.name) (sym one) ∙ w.2 in
    inr (on_object_there c.args.slots.now c.args.cells.now c.requires.kept kinds.Any c.in-Some.slot w.0 c.args.name.now (λ o. done (without_object c.args.name.now s) Empty) w.1 w.2 c.requires.there
    ∙ ap (λ (t : ObjectState). Some (t, Line Empty)) (sym (dropped c.args.slots.now c.empty.new.slots c.args.cells.now c.empty.new.cells c.in-Some.slot c.args.name.now r c.requires.kept c.empty.ensures.kept c.empty.ensures.made named)))
