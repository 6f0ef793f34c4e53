-- The pool has the place of the item's object.
use Rattle.std.proofs.Common.{◌≡◌, Some, refl, sym, ap, ◌∙◌}
use Rattle.std.specs.Prelude.{slice_get}
use Rattle.object_store.specs.declared.slots.Named.{Named}
use Rattle.object_store.specs.State.{ObjectState}
use Rattle.object_store.specs.Views.{is_of, holds_cell}
use Rattle.object_store.specs.Inner.{kind_of}
use Rattle.object_store.specs.Kept.{Places}
use Rattle.object_store.proofs.Looks.{holds_there, holds_none}
use Rattle.object_store.proofs.objects.Objects.holds_cell.Goals as goal

pub kind_at-requires : goal.kind_at-requires
kind_at-requires c =
    let w = c.self.invariant.there c.in-Some.place.slot c.in-Some.place.item.serial c.args.number (c.in-Some.place, sym c.place_of.ensures ∙ c.in-Some.is, refl, refl) in
    (w.0, ap (λ (ps : Places). slice_get ps c.in-Some.place.slot) c.as_slice.ensures.value ∙ w.2, tt)

pub returns-in-Some : goal.returns-in-Some
returns-in-Some c =
    let a = c.self.inside in
    let w = c.self.invariant.there c.in-Some.place.slot c.in-Some.place.item.serial c.args.number (c.in-Some.place, sym c.place_of.ensures ∙ c.in-Some.is, refl, refl) in
    let k = c.kind_at.ensures in
    let both : Some (Some k.0) ≡ Some (Some w.0) = sym k.1 ∙ ap (λ (ps : Places). slice_get ps c.in-Some.place.slot) c.as_slice.ensures.value ∙ w.2 in
    let same : k.0 ≡ w.0 = cc in
    c.is_of.ensures ∙ ap (λ z. is_of c.args.kinds z) (sym k.2 ∙ ap (λ (m : Named). kind_of m.object) same)
    ∙ sym (holds_there a.slots.items a.cells c.self.invariant c.args.kinds c.in-Some.place.slot c.in-Some.place.item.serial c.args.number w.0 w.1 w.2 w.3 w.4)
    ∙ ap (λ (s : ObjectState). holds_cell s c.args.kinds c.args.number) c.self.view_is

pub returns-in-None : goal.returns-in-None
returns-in-None c =
    let a = c.self.inside in
    sym (holds_none a.slots.items a.cells c.self.invariant c.args.kinds c.args.number (sym c.place_of.ensures ∙ c.in-None.is))
    ∙ ap (λ (s : ObjectState). holds_cell s c.args.kinds c.args.number) c.self.view_is
