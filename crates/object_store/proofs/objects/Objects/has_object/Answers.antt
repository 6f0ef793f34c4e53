-- The object of the name stands at its place.
use Rattle.std.proofs.Common.{◌≡◌, None, sym, ap, ◌∙◌}
use Rattle.object_store.specs.declared.slots.Named.{Named}
use Rattle.object_store.specs.State.{ObjectState}
use Rattle.object_store.specs.Views.{is_of, has_object}
use Rattle.object_store.specs.Inner.{kind_of}
use Rattle.object_store.specs.Slots.{found, HasName}
use Rattle.object_store.specs.Kept.{Places}
use Rattle.object_store.proofs.Looks.{has_there, has_none}
use Rattle.object_store.proofs.Places.{at_index, named_at}
use Rattle.object_store.proofs.objects.Objects.has_object.Goals as goal

pub returns-in-Some-index : goal.returns-in-Some-index
returns-in-Some-index c =
    let a = c.self.inside in
    let w : HasName a.slots.items c.args.name.now c.in-Some.slot = named_at a.slots.items c.as_slice.result.now c.args.name.now c.in-Some.slot c.as_slice.ensures.value c.in-Some.ensures in
    let n : w.0 ≡ c.in-Some-index.named = at_index c.in-Some.slot w.0 c.in-Some-index.named c.index.result.now a.slots.items w.1 c.index.ensures c.in-Some-index.is in
    c.is_of.ensures ∙ ap (λ k. is_of c.args.kinds k) (c.kind.ensures ∙ ap (λ (m : Named). kind_of m.object) (sym n))
    ∙ sym (has_there a.slots.items a.cells c.self.invariant c.args.kinds c.in-Some.slot w.0 w.1)
    ∙ ap (λ (s : ObjectState). has_object s c.args.kinds w.0.name) c.self.view_is
    ∙ ap (λ x. has_object c.args.self.now c.args.kinds x) w.2

pub returns-in-None : goal.returns-in-None
returns-in-None c =
    let a = c.self.inside in
    let none : found c.args.name.now a.slots.items ≡ None = ap (λ (ps : Places). found c.args.name.now ps) (sym c.as_slice.ensures.value) ∙ c.in-None.ensures in
    sym (ap (λ (s : ObjectState). has_object s c.args.kinds c.args.name.now) (sym c.self.view_is) ∙ has_none a.slots.items a.cells c.self.invariant c.args.kinds c.args.name.now none)
