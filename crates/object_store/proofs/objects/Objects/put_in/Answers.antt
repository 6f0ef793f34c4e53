-- The places and the pool stand for the objects.
use Rattle.std.proofs.Common.{◌≡◌, true, sym, ap, subst, ◌∙◌, w64}
use Rattle.std.specs.Prelude.{ℤ, Option}
use Rattle.std.proofs.lemmas.Int.{to_z-of_z}
use Rattle.item_queue.proofs.Written.{items_back}
use Rattle.reply_text.specs.Outcome.{Outcome}
use Rattle.object_store.specs.State.{ObjectState}
use Rattle.object_store.specs.Commands.{on_object, enters, next}
use Rattle.object_store.specs.Entrance.{entrance_kinds, put_in, values_of}
use Rattle.object_store.specs.Views.{has_object, object_at}
use Rattle.object_store.specs.Kept.{Places, state_of, IsKept}
use Rattle.object_store.specs.Leads.{Leads}
use Rattle.object_store.proofs.objects.Objects.put_in.Goals as goal

pub put_into-requires-clause-kept : goal.put_into-requires-clause-kept
put_into-requires-clause-kept c = subst (λ (ps : Places). IsKept ps c.self.inside.cells) (sym c.as_mut_slice.ensures.value) c.self.invariant

pub put_into-requires-clause-there : goal.put_into-requires-clause-there
put_into-requires-clause-there c =
    ap (λ (ps : Places). has_object (state_of ps c.self.inside.cells) (entrance_kinds c.args.entrance) c.args.name.now) c.as_mut_slice.ensures.value
    ∙ ap (λ (s : ObjectState). has_object s (entrance_kinds c.args.entrance) c.args.name.now) c.self.view_is ∙ c.requires.there

pub put_into-requires-clause-open : goal.put_into-requires-clause-open
put_into-requires-clause-open c = λ o at.
    c.requires.open o (ap (λ (s : ObjectState). object_at s c.args.name.now) (sym c.self.view_is)
    ∙ ap (λ (ps : Places). object_at (state_of ps c.self.inside.cells) c.args.name.now) (sym c.as_mut_slice.ensures.value) ∙ at)

pub invariant_of-self : goal.invariant_of-self
invariant_of-self c =
    let zs = c.put_into.new.slots in
    subst (λ (ps : Places). IsKept ps c.put_into.new.cells) (sym (items_back c.self.inside.slots zs (c.put_into.auto.slots ∙ c.as_mut_slice.ensures.len))) c.put_into.ensures.kept

pub returns-clause-leads : goal.returns-clause-leads
returns-clause-leads c =
    let a = c.self.inside in
    let ws = c.as_mut_slice.result.now in
    let zs = c.put_into.new.slots in
    let after = c.put_into.new.cells in
    let e = c.args.entrance in
    let row : ObjectState → ℤ → Option (Outcome ObjectState) = λ s v. on_object s (entrance_kinds e) c.args.name.now (λ o. enters c.args.name.now o (put_in e (next (values_of e v) s) o.cells) s) in
    let is : state_of ws a.cells ≡ c.args.self.now = ap (λ (ps : Places). state_of ps a.cells) c.as_mut_slice.ensures.value ∙ c.self.view_is in
    subst (λ (u : ObjectState). Leads true (row c.args.self.now c.args.value) c.args.self.now c.put_into.result u)
    (ap (λ (ps : Places). state_of ps after) (sym (items_back a.slots zs (c.put_into.auto.slots ∙ c.as_mut_slice.ensures.len))))
    (subst (λ (u : ObjectState). Leads true (row u c.args.value) u c.put_into.result (state_of zs after)) is
    (subst (λ (z : ℤ). Leads true (row (state_of ws a.cells) z) (state_of ws a.cells) c.put_into.result (state_of zs after)) (to_z-of_z w64 c.args.value c.ranges.value) c.put_into.ensures.leads))
