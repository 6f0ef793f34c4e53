-- The object of the name has the item that is sought.
use Rattle.std.proofs.Common.{◌≡◌, true, Some, sym, ap, subst, ◌∙◌}
use Rattle.std.specs.Prelude.{slice_get}
use Rattle.object_store.specs.declared.near.Near.{Near}
use Rattle.object_store.specs.declared.slots.Named.{Named}
use Rattle.object_store.specs.State.{ObjectState}
use Rattle.object_store.specs.Finds.{Finds}
use Rattle.object_store.specs.Views.{is_of, has_object}
use Rattle.object_store.specs.Words.{sought_kinds}
use Rattle.object_store.specs.Inner.{inner, kind_of}
use Rattle.object_store.specs.Near.{IsNumber, IsPlaced, near_kinds}
use Rattle.object_store.specs.Slots.{found}
use Rattle.object_store.specs.Kept.{Places}
use Rattle.object_store.proofs.Leads.{name_found, kind_there}
use Rattle.object_store.proofs.Finding.{finds, placed_sought, kind_sought}
use Rattle.object_store.proofs.Places.{named_at}
use Rattle.object_store.proofs.objects.Objects.number_sought.Goals as goal

pub unreachable-requires : goal.unreachable-requires
unreachable-requires c =
    let a = c.self.inside in
    name_found a.slots.items a.cells c.self.invariant (sought_kinds c.args.what) c.args.name.now (ap (λ (s : ObjectState). has_object s (sought_kinds c.args.what) c.args.name.now) c.self.view_is ∙ c.requires) (ap (λ (ps : Places). found c.args.name.now ps) (sym c.as_slice-slots.ensures.value) ∙ c.in_default.ensures)

pub number_at_place-requires : goal.number_at_place-requires
number_at_place-requires c =
    let a = c.self.inside in
    let w = named_at a.slots.items c.as_slice-slots.result.now c.args.name.now c.in-Some.slot c.as_slice-slots.ensures.value c.in-Some.ensures in
    let kind = kind_there a.slots.items a.cells c.self.invariant (sought_kinds c.args.what) c.in-Some.slot w.0 c.args.name.now w.1 w.2 (ap (λ (s : ObjectState). has_object s (sought_kinds c.args.what) c.args.name.now) c.self.view_is ∙ c.requires) in (
      w.0,
      ap (λ (ps : Places). slice_get ps c.in-Some.slot) c.as_slice-slots.ensures.value ∙ w.1,
      record {
        placed = subst (λ (near : Near). IsPlaced near (inner w.0.object)) (sym c.near.ensures) (placed_sought c.args.what (inner w.0.object));
        distinct = (c.self.invariant.sound c.in-Some.slot w.0 w.1).distinct;
        rising = (c.self.invariant.sound c.in-Some.slot w.0 w.1).rising;
        kind = subst (λ (near : Near). is_of (near_kinds near) (kind_of w.0.object) ≡ true) (sym c.near.ensures) (kind_sought c.args.what (kind_of w.0.object) kind);
      },
    )

pub returns : goal.returns
returns c =
    let a = c.self.inside in
    let w = named_at a.slots.items c.as_slice-slots.result.now c.args.name.now c.in-Some.slot c.as_slice-slots.ensures.value c.in-Some.ensures in
    let got = c.number_at_place.ensures in
    let at = ap (λ (ps : Places). slice_get ps c.in-Some.slot) (sym c.as_slice-slots.ensures.value) ∙ got.1 in
    let both : Some (Some w.0) ≡ Some (Some got.0) = sym w.1 ∙ at in
    let one : w.0 ≡ got.0 = cc in
    subst (λ (s : ObjectState). Finds s c.args.what c.args.name.now c.number_at_place.result) c.self.view_is
    (finds a.slots.items a.cells c.self.invariant c.in-Some.slot got.0 c.args.name.now at (ap (λ (m : Named). m.name) (sym one) ∙ w.2) c.args.what c.number_at_place.result
    (ap (λ (s : ObjectState). has_object s (sought_kinds c.args.what) c.args.name.now) c.self.view_is ∙ c.requires)
    (subst (λ (near : Near). IsNumber near got.0.object c.number_at_place.result) c.near.ensures got.2))
