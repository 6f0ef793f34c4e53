-- An item of the object goes each turn.
use Rattle.std.proofs.Common.{◌≡◌, Some, None, refl, sym, ap, subst, ◌∙◌}
use Rattle.std.specs.Prelude.{⊤}
use Rattle.object_store.specs.declared.objects.Place.{Place}
use Rattle.object_store.specs.Entrance.{Leaves}
use Rattle.object_store.specs.Kept.{Replaces}
use Rattle.object_store.proofs.Dropping.{replaces_same, replaces_any, replaces_more, replaces_bare, replaced_there}
use Rattle.object_store.proofs.drop.empty.Goals as goal

none_some : {A : Type 0} (a : A) → None ≡ Some a → ⊥
none_some a e = cc

pub loop-number-init : goal.loop-number-init
loop-number-init c = (c.requires.kept, replaces_same c.args.slots.now c.args.slot c.requires.there.0 c.requires.there.1, refl)

pub some_number_at-requires : goal.some_number_at-requires
some_number_at-requires c =
    let l = c.loop-number in
    let r = l.invariant.1 in
    let at = replaced_there c.args.slots.now l.slots c.args.slot r in
    (r.new, at, (l.invariant.0.sound c.args.slot r.new at).distinct)

pub unreachable-requires : goal.unreachable-requires
unreachable-requires c =
    let l = c.loop-number in
    let h = c.in-Some.ensures in
    let w = l.invariant.0.said c.args.slot h.2.0 c.in-Some.number (h.0, h.2.1, h.1, h.2.2, h.2.3) in
    none_some w.0 (c.in_default-place_of.ensures ∙ w.1)

pub leave-requires-clause-there : goal.leave-requires-clause-there
leave-requires-clause-there c = sym c.place_of.ensures ∙ c.in-Some-place_of.is

pub loop-number-preserved : goal.loop-number-preserved
loop-number-preserved c =
    let l = c.loop-number in
    let h = c.in-Some.ensures in
    let place = c.in-Some-place_of.place in
    let w = l.invariant.0.said c.args.slot h.2.0 c.in-Some.number (h.0, h.2.1, h.1, h.2.2, h.2.3) in
    let both : Some w.0 ≡ Some place = sym w.1 ∙ sym c.place_of.ensures ∙ c.in-Some-place_of.is in
    let one : w.0 ≡ place = cc in
    let slot : place.slot ≡ c.args.slot = ap (λ (p : Place). p.slot) (sym one) ∙ w.2 in
    let step = subst (λ k. Replaces l.slots c.leave.new.slots k (λ o t. ⊤)) slot (replaces_any l.slots c.leave.new.slots place.slot (Leaves place.item.serial) c.leave.ensures.goes) in
    (c.leave.ensures.kept, replaces_more c.args.slots.now l.slots c.leave.new.slots c.args.slot l.invariant.1 step, c.leave.ensures.made ∙ l.invariant.2)

pub loop-number-smaller : goal.loop-number-smaller
loop-number-smaller c = c.leave.ensures.fewer

pub returns-clause-bare : goal.returns-clause-bare
returns-clause-bare c = replaces_bare c.args.slots.now c.loop-number.slots c.args.slot c.loop-number.invariant.1 c.in_default.ensures
