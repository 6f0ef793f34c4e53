-- The places and the pool stand for the objects.
use Rattle.std.proofs.Common.{◌≡◌, ◌⊎◌, true, Option, Some, sym, ap, subst, ◌∙◌, w64}
use Rattle.std.specs.Prelude.{ℤ}
use Rattle.std.proofs.lemmas.Int.{to_z-of_z}
use Rattle.item_queue.proofs.Written.{items_back}
use Rattle.reply_text.specs.Outcome.{Outcome, LacksMemory}
use Rattle.object_store.specs.State.{ObjectState}
use Rattle.object_store.specs.Elements.{element_kinds, element_number, element_sort}
use Rattle.object_store.specs.Kept.{Places, state_of, IsKept}
use Rattle.object_store.specs.Served.{AllServe}
use Rattle.object_store.specs.Values.{sets}
use Rattle.object_store.specs.Views.{has_object}
use Rattle.object_store.proofs.Telling.{set_led}
use Rattle.object_store.proofs.objects.Objects.set.Goals as goal

pub set_in-requires-clause-kept : goal.set_in-requires-clause-kept
set_in-requires-clause-kept c = subst (λ (ps : Places). IsKept ps c.self.inside.cells) (sym c.as_mut_slice.ensures.value) c.self.invariant

pub set_in-requires-clause-there : goal.set_in-requires-clause-there
set_in-requires-clause-there c =
    ap (λ (ps : Places). has_object (state_of ps c.self.inside.cells) (element_kinds c.args.element) c.args.name.now) c.as_mut_slice.ensures.value
    ∙ ap (λ (s : ObjectState). has_object s (element_kinds c.args.element) c.args.name.now) c.self.view_is ∙ c.requires.there

pub set_in-requires-clause-serve : goal.set_in-requires-clause-serve
set_in-requires-clause-serve c =
    subst (λ (ps : Places). AllServe c.args.g.now (state_of ps c.self.inside.cells)) (sym c.as_mut_slice.ensures.value) (subst (λ (s : ObjectState). AllServe c.args.g.now s) (sym c.self.view_is) c.requires.serve)

pub invariant_of-self : goal.invariant_of-self
invariant_of-self c =
    subst (λ (ps : Places). IsKept ps c.self.inside.cells) (sym (items_back c.self.inside.slots c.set_in.new.slots (c.set_in.auto.slots ∙ c.as_mut_slice.ensures.len))) c.set_in.ensures.kept

pub returns-clause-leads : goal.returns-clause-leads
returns-clause-leads c =
    let a = c.self.inside in
    let ws = c.as_mut_slice.result.now in
    let zs = c.set_in.new.slots in
    let row : ℤ → ObjectState → Option (Outcome ObjectState) = λ x s. sets (element_sort c.args.element) c.args.name.now (element_number c.args.element) x s in
    set_led (row c.args.value) (state_of ws a.cells) c.args.self.now (state_of zs a.cells) _ c.set_in.result
    (ap (λ (ps : Places). state_of ps a.cells) c.as_mut_slice.ensures.value ∙ c.self.view_is)
    (ap (λ (ps : Places). state_of ps a.cells) (sym (items_back a.slots zs (c.set_in.auto.slots ∙ c.as_mut_slice.ensures.len))))
    (subst (λ x. LacksMemory true (state_of ws a.cells) c.set_in.result (state_of zs a.cells) ⊎ (row x (state_of ws a.cells) ≡ Some (state_of zs a.cells, c.set_in.result)))
    (to_z-of_z w64 c.args.value c.ranges.value) c.set_in.ensures.leads)

pub returns-clause-serve : goal.returns-clause-serve
returns-clause-serve c =
    let a = c.self.inside in
    subst (λ (ps : Places). AllServe c.args.g.now (state_of ps a.cells)) (sym (items_back a.slots c.set_in.new.slots (c.set_in.auto.slots ∙ c.as_mut_slice.ensures.len))) c.set_in.ensures.serve
