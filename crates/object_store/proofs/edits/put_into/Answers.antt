-- The object of the name has the entrance.
use Rattle.std.proofs.Common.{◌≡◌, ℕ, ◌+◌, true, List, map, sym, ap, subst, ◌∙◌, w64, to_z, of_z}
use Rattle.std.specs.Prelude.{ℤ}
use Rattle.std.proofs.lemmas.Int.{to_z-of_z}
use Rattle.reply_text.specs.Outcome.{Outcome, Gives}
use Rattle.object_store.specs.State.{Object, ObjectState}
use Rattle.object_store.specs.Commands.{on_object, enters, next}
use Rattle.object_store.specs.Inner.{inner, made_in, cell_in, seen}
use Rattle.object_store.specs.Entrance.{entered, entrance_kinds, put_in, values_of}
use Rattle.object_store.specs.Views.{object_at}
use Rattle.object_store.specs.Kept.{state_of}
use Rattle.object_store.proofs.Comings.{cells_put, fits_open}
use Rattle.object_store.proofs.Holders.{object_there}
use Rattle.object_store.proofs.Leads.{leads, kind_there, on_object_there, name_found}
use Rattle.object_store.proofs.edits.put_into.Goals as goal

pub unreachable-requires : goal.unreachable-requires
unreachable-requires c = name_found c.args.slots.now c.args.cells.now c.requires.kept (entrance_kinds c.args.entrance) c.args.name.now c.requires.there c.in_default.ensures

pub enter-requires-clause-there : goal.enter-requires-clause-there
enter-requires-clause-there c =
    let w = c.in-Some.ensures in
    let kind = kind_there c.args.slots.now c.args.cells.now c.requires.kept (entrance_kinds c.args.entrance) c.in-Some.slot w.0 c.args.name.now w.1 w.2 c.requires.there in (
      w.0,
      w.1,
      fits_open c.args.entrance w.0.object kind
          (c.requires.open (seen w.0.object) (ap (λ x. object_at (state_of c.args.slots.now c.args.cells.now) x) (sym w.2) ∙ object_there c.args.slots.now c.args.cells.now c.requires.kept c.in-Some.slot w.0 w.1))
          (c.requires.kept.sound c.in-Some.slot w.0 w.1).given,
    )

pub returns-clause-leads : goal.returns-clause-leads
returns-clause-leads c =
    let w = c.in-Some.ensures in
    let s : ObjectState = state_of c.args.slots.now c.args.cells.now in
    let e = c.args.entrance in
    let f : Object → Outcome ObjectState = λ o. enters c.args.name.now o (put_in e (next (values_of e c.args.value) s) o.cells) s in
    let g : List ℕ → ℤ → Outcome ObjectState = λ x v. enters x (seen w.0.object) (map cell_in (entered e (made_in w.0.object + 1, (s.made + 1, values_of e v)) (inner w.0.object))) s in
    let free = c.requires.open (seen w.0.object) (ap (λ x. object_at s x) (sym w.2) ∙ object_there c.args.slots.now c.args.cells.now c.requires.kept c.in-Some.slot w.0 w.1) in
    let is : g w.0.name (to_z w64 (of_z w64 c.args.value)) ≡ f (seen w.0.object) =
    (λ i. g (w.2 i) (to_z-of_z w64 c.args.value c.ranges.value i))
    ∙ ap (λ cs. enters c.args.name.now (seen w.0.object) cs s) (cells_put e (made_in w.0.object + 1) (s.made + 1, values_of e c.args.value) (inner w.0.object) free) in
    leads true (on_object s (entrance_kinds e) c.args.name.now f) (f (seen w.0.object)) s c.enter.result (state_of c.enter.new.slots c.enter.new.cells)
    (on_object_there c.args.slots.now c.args.cells.now c.requires.kept (entrance_kinds e) c.in-Some.slot w.0 c.args.name.now f w.1 w.2 c.requires.there)
    (subst (λ (h : Outcome ObjectState). Gives true h s c.enter.result (state_of c.enter.new.slots c.enter.new.cells)) is (c.enter.ensures.gives w.0 w.1))
