-- The list has an entrance beside the item.
use Rattle.std.proofs.Common.{◌≡◌, ℕ, ◌+◌, true, List, [], ◌∷◌, map, sym, ap, subst, ◌∙◌, w64, to_z, of_z}
use Rattle.std.specs.Prelude.{ℤ}
use Rattle.std.proofs.lemmas.Int.{to_z-of_z}
use Rattle.script_text.specs.declared.form.Kinds.TheVariants as kinds
use Rattle.reply_text.specs.Outcome.{Outcome, Gives}
use Rattle.object_store.specs.declared.entrance.Entrance.{Entrance}
use Rattle.object_store.specs.State.{Object, ObjectState}
use Rattle.object_store.specs.Commands.{on_cell, enters, next}
use Rattle.object_store.specs.Inner.{inner, made_in, cell_in, seen}
use Rattle.object_store.specs.Entrance.{entered, beside, values_of, with_beside, Fits}
use Rattle.object_store.specs.Kept.{state_of}
use Rattle.object_store.proofs.Holders.{agrees}
use Rattle.object_store.proofs.Leads.{leads, cell_found, cell_at, on_cell_there}
use Rattle.object_store.proofs.Rows.{fits_beside, cells_beside, values_beside}
use Rattle.object_store.proofs.edits.put_beside.Goals as goal

pub unreachable-requires : goal.unreachable-requires
unreachable-requires c = cell_found c.args.slots.now c.args.cells.now c.requires.kept kinds.List c.args.number c.requires.there (sym c.in_default.ensures)

pub enter-requires-clause-there : goal.enter-requires-clause-there
enter-requires-clause-there c =
    let w = cell_at c.args.slots.now c.args.cells.now c.requires.kept kinds.List c.args.number c.in-Some.place c.requires.there (sym c.place_of.ensures ∙ c.in-Some.is) in
    (w.object, w.at, subst (λ (e : Entrance). Fits e w.object.object) (sym c.entrance.ensures) (fits_beside c.args.side c.in-Some.place.item w.object.object w.cell w.kind w.has))

pub returns-clause-leads : goal.returns-clause-leads
returns-clause-leads c =
    let w = cell_at c.args.slots.now c.args.cells.now c.requires.kept kinds.List c.args.number c.in-Some.place c.requires.there (sym c.place_of.ensures ∙ c.in-Some.is) in
    let s : ObjectState = state_of c.args.slots.now c.args.cells.now in
    let f : List ℕ → Object → List ℤ → Outcome ObjectState = λ x o old. enters x o (with_beside c.args.side c.args.number (next (c.args.value ∷ []) s) o.cells) s in
    let g : Entrance → ℤ → Outcome ObjectState = λ e v. enters w.object.name (seen w.object.object) (map cell_in (entered e (made_in w.object.object + 1, (s.made + 1, values_of e v)) (inner w.object.object))) s in
    let is : g c.entrance.result (to_z w64 (of_z w64 c.args.value)) ≡ f w.object.name (seen w.object.object) w.cell.1 =
    (λ i. g (c.entrance.ensures i) (to_z-of_z w64 c.args.value c.ranges.value i))
    ∙ ap (λ vs. enters w.object.name (seen w.object.object) (map cell_in (entered (beside c.args.side c.in-Some.place.item) (made_in w.object.object + 1, (s.made + 1, vs)) (inner w.object.object))) s) (values_beside c.args.side c.in-Some.place.item c.args.value)
    ∙ ap (λ cs. enters w.object.name (seen w.object.object) cs s) (cells_beside c.args.side c.in-Some.place.item c.args.number (made_in w.object.object + 1) (s.made + 1, c.args.value ∷ []) (inner w.object.object)
    (agrees c.args.slots.now c.args.cells.now c.requires.kept c.in-Some.place.slot c.in-Some.place.item.serial c.args.number w.object w.cell w.at w.has w.is)) in
    leads true (on_cell s kinds.List c.args.number f) (f w.object.name (seen w.object.object) w.cell.1) s c.enter.result (state_of c.enter.new.slots c.enter.new.cells)
    (on_cell_there c.args.slots.now c.args.cells.now c.requires.kept kinds.List c.args.number c.in-Some.place w f)
    (subst (λ (h : Outcome ObjectState). Gives true h s c.enter.result (state_of c.enter.new.slots c.enter.new.cells)) is (c.enter.ensures.gives w.object w.at))
