-- The item comes in under the next number, or all is as it was.
use Rattle.std.proofs.Common.{◌≡◌, ℕ, ◌+◌, List, map, Some, refl, sym, ap, subst, ◌∙◌, inl, inr}
use Rattle.object_store.specs.declared.slots.Named.{Named}
use Rattle.object_store.specs.State.{Cell}
use Rattle.object_store.specs.Commands.{with_cells}
use Rattle.object_store.specs.Inner.{inner, made_in, cell_in, seen}
use Rattle.std.proofs.lemmas.Int.{to_z-of_z}
use mir.Syntax.{w64}
use Rattle.object_store.specs.Kept.{Replaces}
use Rattle.object_store.specs.Entrance.{entered, values_of, Enters}
use Rattle.object_store.proofs.Entered.{fits_old, entered_reply}
use Rattle.object_store.proofs.Steps.{kept_room, state_room, kept_like, state_like, kept_enters, state_enters}
use Rattle.object_store.proofs.parts.enter.Goals as goal

pub returns-then-is_err-clause-kept : goal.returns-then-is_err-clause-kept
returns-then-is_err-clause-kept c = kept_room c.args.slots.now c.args.cells.now c.reserve.new.self c.reserve.ensures.kept.0 c.reserve.ensures.kept.1 c.requires.kept

pub returns-in-Ok-clause-kept : goal.returns-in-Ok-clause-kept
returns-in-Ok-clause-kept c =
    let cells = c.reserve.new.self in
    let r = subst (λ z. Replaces c.args.slots.now c.enter_at.new.slots c.args.slot (λ o t. Enters c.args.entrance o t c.in-Ok.item.serial (c.made-number.result + 1, values_of c.args.entrance z))) (to_z-of_z w64 c.args.value c.ranges.value) c.in-Ok.ensures.ok in
    kept_enters c.args.slots.now c.enter_at.new.slots c.args.slot cells c.insert_reserved.new.self
    (kept_room c.args.slots.now c.args.cells.now cells c.reserve.ensures.kept.0 c.reserve.ensures.kept.1 c.requires.kept)
    c.made-number.ensures.within c.args.entrance c.in-Ok.item c.insert_reserved.result (c.made-number.result + 1, values_of c.args.entrance c.args.value) (record { slot = c.args.slot; item = c.in-Ok.item })
    r (fits_old c.args.entrance c.args.slots.now c.args.slot c.requires.there.0 r.old c.requires.there.1 r.was c.requires.there.2)
    c.insert_reserved.ensures refl refl (ap (λ z. z + 1) c.made-number.ensures.made)

pub returns-in-Ok-clause-gives : goal.returns-in-Ok-clause-gives
returns-in-Ok-clause-gives c = λ n at.
    let cells = c.reserve.new.self in
    let r = subst (λ z. Replaces c.args.slots.now c.enter_at.new.slots c.args.slot (λ o t. Enters c.args.entrance o t c.in-Ok.item.serial (c.made-number.result + 1, values_of c.args.entrance z))) (to_z-of_z w64 c.args.value c.ranges.value) c.in-Ok.ensures.ok in
    let both : Some (Some r.old) ≡ Some (Some n) = sym r.was ∙ at in
    let old : r.old ≡ n = cc in
    let number : c.made-number.result + 1 ≡ c.args.cells.now.made + 1 = ap (λ z. z + 1) (c.made-number.ensures.made ∙ c.reserve.ensures.kept.1) in
    let states = state_enters c.args.slots.now c.enter_at.new.slots c.args.slot cells c.insert_reserved.new.self
    (kept_room c.args.slots.now c.args.cells.now cells c.reserve.ensures.kept.0 c.reserve.ensures.kept.1 c.requires.kept)
    c.made-number.ensures.within c.args.entrance c.in-Ok.item c.insert_reserved.result (c.made-number.result + 1, values_of c.args.entrance c.args.value) (record { slot = c.args.slot; item = c.in-Ok.item })
    r (fits_old c.args.entrance c.args.slots.now c.args.slot c.requires.there.0 r.old c.requires.there.1 r.was c.requires.there.2)
    c.insert_reserved.ensures refl refl (ap (λ z. z + 1) c.made-number.ensures.made) in
    let cs : (m : Named) (z : ℕ) → List Cell = λ m z. map cell_in (entered c.args.entrance (made_in m.object + 1, (z, values_of c.args.entrance c.args.value)) (inner m.object)) in
    inr (entered_reply c.args.slots.now c.enter_at.new.slots c.args.cells.now c.insert_reserved.new.self n (cs n (c.args.cells.now.made + 1)) (c.made-number.result + 1)
    (sym c.full.ensures.full ∙ c.in_default.is)
    (states
    ∙ (λ i. record (with_cells (old i).name (seen (old i).object) (cs (old i) (number i)) (state_room c.args.slots.now c.args.cells.now cells c.reserve.ensures.kept.1 i)) { made = c.reserve.ensures.kept.1 i + 1 }))
    number)

pub returns-in-Err-clause-kept : goal.returns-in-Err-clause-kept
returns-in-Err-clause-kept c =
    let cells = c.reserve.new.self in
    kept_like c.args.slots.now c.enter_at.new.slots c.args.slot cells
    (kept_room c.args.slots.now c.args.cells.now cells c.reserve.ensures.kept.0 c.reserve.ensures.kept.1 c.requires.kept)
    c.in-Err.ensures.err

pub returns-in-Err-clause-gives : goal.returns-in-Err-clause-gives
returns-in-Err-clause-gives c = λ n at.
    let cells = c.reserve.new.self in
    inl (record {
      may = refl;
      answer = refl;
      state =
          state_like c.args.slots.now c.enter_at.new.slots c.args.slot cells
          (kept_room c.args.slots.now c.args.cells.now cells c.reserve.ensures.kept.0 c.reserve.ensures.kept.1 c.requires.kept)
          c.in-Err.ensures.err
          ∙ state_room c.args.slots.now c.args.cells.now cells c.reserve.ensures.kept.1;
    })
