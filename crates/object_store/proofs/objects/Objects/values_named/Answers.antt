-- The object of the name stands at its place, and has values or is a container.
use Rattle.std.proofs.Common.{◌≡◌, Some, None, sym, ap, ◌∙◌}
use Rattle.object_store.specs.declared.object.Object.{Object as Held}
use Rattle.object_store.specs.declared.slots.Named.{Named}
use Rattle.object_store.specs.State.{ObjectState}
use Rattle.object_store.specs.Inner.{kind_of, seen}
use Rattle.object_store.specs.Kept.{Places, state_of}
use Rattle.object_store.specs.Listed.{kinds_over}
use Rattle.object_store.specs.Slots.{found, HasName}
use Rattle.object_store.specs.Views.{is_of, has_object, object_at}
use Rattle.object_store.proofs.Holders.{object_there}
use Rattle.object_store.proofs.Looks.{has_there, has_none}
use Rattle.object_store.proofs.Places.{at_index, named_at}
use Rattle.object_store.proofs.ValuesListed.{no_container}
use Rattle.object_store.proofs.objects.Objects.values_named.Goals as goal

pub returns-in-Values : goal.returns-in-Values
returns-in-Values c =
    let a = c.self.inside in
    let w : HasName a.slots.items c.args.name.now c.in-Some.slot = named_at a.slots.items c.as_slice.result.now c.args.name.now c.in-Some.slot c.as_slice.ensures.value c.in-Some.ensures in
    let n : w.0 ≡ c.in-Some-index.named = at_index c.in-Some.slot w.0 c.in-Some-index.named c.index.result.now a.slots.items w.1 c.index.ensures c.in-Some-index.is in
    ap (λ (s : ObjectState). object_at s c.args.name.now) (sym c.self.view_is)
    ∙ ap (λ x. object_at (state_of a.slots.items a.cells) x) (sym w.2)
    ∙ object_there a.slots.items a.cells c.self.invariant c.in-Some.slot w.0 w.1
    ∙ ap (λ (m : Named). Some (seen m.object)) n
    ∙ ap (λ (o : Held). Some (seen o)) c.in-Values.is

pub returns-in_default : goal.returns-in_default
returns-in_default c = λ sort.
    let a = c.self.inside in
    let w : HasName a.slots.items c.args.name.now c.in-Some.slot = named_at a.slots.items c.as_slice.result.now c.args.name.now c.in-Some.slot c.as_slice.ensures.value c.in-Some.ensures in
    let n : w.0 ≡ c.in-Some-index.named = at_index c.in-Some.slot w.0 c.in-Some-index.named c.index.result.now a.slots.items w.1 c.index.ensures c.in-Some-index.is in
    ap (λ (s : ObjectState). has_object s (kinds_over sort) c.args.name.now) (sym c.self.view_is)
    ∙ ap (λ x. has_object (state_of a.slots.items a.cells) (kinds_over sort) x) (sym w.2)
    ∙ has_there a.slots.items a.cells c.self.invariant (kinds_over sort) c.in-Some.slot w.0 w.1
    ∙ ap (λ (m : Named). is_of (kinds_over sort) (kind_of m.object)) n
    ∙ no_container sort c.in-Some-index.named.object c.in_default.not-Values

pub returns-in-None : goal.returns-in-None
returns-in-None c = λ sort.
    let a = c.self.inside in
    let none : found c.args.name.now a.slots.items ≡ None = ap (λ (ps : Places). found c.args.name.now ps) (sym c.as_slice.ensures.value) ∙ c.in-None.ensures in
    ap (λ (s : ObjectState). has_object s (kinds_over sort) c.args.name.now) (sym c.self.view_is)
    ∙ has_none a.slots.items a.cells c.self.invariant (kinds_over sort) c.args.name.now none
