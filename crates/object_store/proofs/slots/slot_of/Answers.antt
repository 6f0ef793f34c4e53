-- The place has an object with the name, or goes by.
use Rattle.std.proofs.Common.{◌≡◌, ◌<◌, ◌≢◌, true, false, Some, length, slice_get, refl, sym, ap, ◌∙◌, ⊎_elim, arith, eq-eqb}
use Rattle.std.proofs.lemmas.Bool.{eqb-true, cases_eq}
use Rattle.std.proofs.lemmas.Option.{slice_get_read}
use Rattle.std.proofs.lemmas.Slice.Eq.{slice_eq-Decides}
use Rattle.object_store.specs.declared.slots.Named.{Named}
use Rattle.object_store.proofs.Found.{not_found}
use Rattle.object_store.proofs.Places.{at_within}
use Rattle.object_store.proofs.slots.slot_of.Goals as goal
use Rattle.object_store.proofs.slots.slot_of.Goals.{in-Some+else-eq, in_default}

pub returns-then-eq : goal.returns-then-eq
returns-then-eq c = (
  c.in-Some.named,
  slice_get_read c.args.slots.now (length c.args.slots.now) c.loop-slot.slot c.index-slots-slot.result refl c.loop-slot-test.true c.index-slots-slot.is ∙ ap Some c.in-Some.is,
  sym c.as_slice.ensures ∙ (slice_eq-Decides (λ a b. (eqb-true a b, eq-eqb a b)) c.as_slice.result.now c.args.name.now c.eq.result c.eq.ensures).0 c.if-eq.true,
)

pub loop-slot-preserved : goal.loop-slot-preserved
loop-slot-preserved c = λ k n lt at is. ⊎_elim
    (λ (e : k ≡ c.loop-slot.slot).
    let here : slice_get c.args.slots.now c.loop-slot.slot ≡ Some c.index-slots-slot.result = slice_get_read c.args.slots.now (length c.args.slots.now) c.loop-slot.slot c.index-slots-slot.result refl c.loop-slot-test.true c.index-slots-slot.is in
    let both : Some c.index-slots-slot.result ≡ Some (Some n) = sym here ∙ ap (λ j. slice_get c.args.slots.now j) (sym e) ∙ at in
    let one : c.index-slots-slot.result ≡ Some n = cc in
    elim c.match-place.branch [
      | in-Some+else-eq w ↦
          let same : w.in-Some.named ≡ n = let two : Some w.in-Some.named ≡ Some n = sym w.in-Some.is ∙ one in cc in
          let yes = (slice_eq-Decides (λ a b. (eqb-true a b, eq-eqb a b)) w.as_slice.result.now c.args.name.now w.eq.result w.eq.ensures).1 (w.as_slice.ensures ∙ ap (λ (m : Named). m.name) same ∙ is) in
          let no : true ≡ false = sym yes ∙ w.if-eq.false in cc
      | in_default w ↦ w.in_default.not-Some n one
    ])
    (λ (ne : k ≢ c.loop-slot.slot). c.loop-slot.invariant k n (omega (arith, lt, ne)) at is)
    (cases_eq k c.loop-slot.slot)

pub returns : goal.returns
returns c = not_found c.args.name.now c.args.slots.now (λ k n at.
    let within : k < length c.args.slots.now = at_within k (Some n) c.args.slots.now at in
    let less : k < c.loop-slot.slot = omega (arith, within, c.loop-slot-test.false) in
    c.loop-slot.invariant k n less at)
