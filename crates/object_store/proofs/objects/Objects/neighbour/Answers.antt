-- The list has the item, and the neighbour.
use Rattle.std.proofs.Common.{◌≡◌, true, [], ◌∷◌, Some, sym, ap, subst, ◌∙◌}
use Rattle.std.specs.Prelude.{slice_get}
use Rattle.script_text.specs.declared.argument.Arg.TheVariants as args
use Rattle.object_store.specs.declared.near.Near.{Near}
use Rattle.object_store.specs.State.{ObjectState}
use Rattle.object_store.specs.Commands.{objects_done}
use Rattle.object_store.specs.Views.{is_of, holds_cell}
use Rattle.object_store.specs.Words.{neighbour_word, neighbour_kinds}
use Rattle.object_store.specs.Inner.{inner, kind_of}
use Rattle.object_store.specs.Near.{IsNumber, IsPlaced, near_kinds}
use Rattle.object_store.specs.Kept.{Places}
use Rattle.object_store.proofs.Edited.{moved_to}
use Rattle.object_store.proofs.Leads.{cell_found, cell_at}
use Rattle.object_store.proofs.Neighbouring.{near_row, placed_near, kind_near}
use Rattle.object_store.proofs.objects.Objects.neighbour.Goals as goal

pub unreachable-requires : goal.unreachable-requires
unreachable-requires c =
    let a = c.self.inside in
    cell_found a.slots.items a.cells c.self.invariant (neighbour_kinds c.args.what) c.args.number (ap (λ (s : ObjectState). holds_cell s (neighbour_kinds c.args.what) c.args.number) c.self.view_is ∙ c.requires) (sym c.in_default.ensures)

pub number_at_place-requires : goal.number_at_place-requires
number_at_place-requires c =
    let a = c.self.inside in
    let w = cell_at a.slots.items a.cells c.self.invariant (neighbour_kinds c.args.what) c.args.number c.in-Some.place (ap (λ (s : ObjectState). holds_cell s (neighbour_kinds c.args.what) c.args.number) c.self.view_is ∙ c.requires) (sym c.place_of.ensures ∙ c.in-Some.is) in (
      w.object,
      ap (λ (ps : Places). slice_get ps c.in-Some.place.slot) c.as_slice.ensures.value ∙ w.at,
      record {
        placed = subst (λ (near : Near). IsPlaced near (inner w.object.object)) (sym c.of-near.ensures) (placed_near c.args.what c.in-Some.place.item (inner w.object.object) w.cell w.has);
        distinct = (c.self.invariant.sound c.in-Some.place.slot w.object w.at).distinct;
        rising = (c.self.invariant.sound c.in-Some.place.slot w.object w.at).rising;
        kind = subst (λ (near : Near). is_of (near_kinds near) (kind_of w.object.object) ≡ true) (sym c.of-near.ensures) (kind_near c.args.what c.in-Some.place.item (kind_of w.object.object) w.kind);
      },
    )

pub returns-clause-leads : goal.returns-clause-leads
returns-clause-leads c =
    let a = c.self.inside in
    let there = cell_at a.slots.items a.cells c.self.invariant (neighbour_kinds c.args.what) c.args.number c.in-Some.place (ap (λ (s : ObjectState). holds_cell s (neighbour_kinds c.args.what) c.args.number) c.self.view_is ∙ c.requires) (sym c.place_of.ensures ∙ c.in-Some.is) in
    let got = c.number_at_place.ensures in
    let w = moved_to a.slots.items (neighbour_kinds c.args.what) c.in-Some.place c.args.number there got.0 (ap (λ (ps : Places). slice_get ps c.in-Some.place.slot) (sym c.as_slice.ensures.value) ∙ got.1) in
    ap (λ (s : ObjectState). objects_done (neighbour_word c.args.what) (args.Cell c.args.number ∷ []) s) (sym c.self.view_is)
    ∙ near_row a.slots.items a.cells c.self.invariant c.in-Some.place c.args.number c.args.what w c.number_at_place.result
    (subst (λ (near : Near). IsNumber near got.0.object c.number_at_place.result) c.of-near.ensures got.2)
    ∙ (λ j. Some (c.self.view_is j, sym c.number_reply.ensures.value j))
