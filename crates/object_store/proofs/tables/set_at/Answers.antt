-- The object at the place has the value, or none.
use Rattle.std.proofs.Common.{◌≡◌, Result, Ok, Err, IfErr, OnOk, Some, refl, sym, ap, subst, ◌∙◌, w64, to_z, of_z}
use Rattle.std.specs.Prelude.{slice_get, slice_set}
use Rattle.std.proofs.lemmas.Int.{to_z-of_z}
use Rattle.std.proofs.lemmas.Option.{get_or_from_slice_get}
use Rattle.object_store.specs.declared.slots.Named.{Named}
use Rattle.object_store.specs.declared.values.SetRefusal.{SetRefusal}
use Rattle.object_store.specs.Kept.{HasAt, Replaces}
use Rattle.object_store.specs.Serving.{IsGiven, Untold}
use Rattle.object_store.proofs.tables.set_at.Goals as goal

pub returns-clause-ok : goal.returns-clause-ok
returns-clause-ok c =
    let ps = c.args.slots.now in
    let k = c.args.slot in
    let e = c.args.element in
    let n : Named = c.in-Some.named in
    let m : Named = record { name = n.name; object = c.set_value.new.self } in
    let there = c.requires.there in
    let both : Some n ≡ Some there.0 = sym c.in-Some.is ∙ get_or_from_slice_get ps k (Some there.0) c.index-slots-slot.result there.1 in
    let one : there.0 ≡ n = cc in
    let was : slice_get ps k ≡ Some (Some n) = there.1 ∙ ap (λ (p : Named). Some (Some p)) one in
    elim c.set_value.result as (λ (r : Result Unit SetRefusal). OnOk r (IsGiven e (to_z w64 (of_z w64 c.args.value)) n.object m.object) → OnOk r (Replaces ps (slice_set ps k (Some m)) k (IsGiven e c.args.value))) [
      | Ok u ↦ λ h. record {
        old = n;
        new = m;
        was = was;
        is = refl;
        name = refl;
        changed = subst (λ x. IsGiven e x n.object m.object) (to_z-of_z w64 c.args.value c.ranges.value) h;
      }
      | Err why ↦ λ h. h
    ] c.set_value.ensures.ok

pub returns-clause-err : goal.returns-clause-err
returns-clause-err c =
    let ps = c.args.slots.now in
    let k = c.args.slot in
    let e = c.args.element in
    let n : Named = c.in-Some.named in
    let there = c.requires.there in
    let both : Some n ≡ Some there.0 = sym c.in-Some.is ∙ get_or_from_slice_get ps k (Some there.0) c.index-slots-slot.result there.1 in
    let one : there.0 ≡ n = cc in
    let was : slice_get ps k ≡ Some (Some n) = there.1 ∙ ap (λ (p : Named). Some (Some p)) one in
    elim c.set_value.result as (λ (r : Result Unit SetRefusal). IfErr r (Untold e n.object) → IfErr r (λ why. HasAt ps k (λ o. Untold e o why))) [
      | Ok u ↦ λ h. h
      | Err why ↦ λ h. (n, was, h)
    ] c.set_value.ensures.err
