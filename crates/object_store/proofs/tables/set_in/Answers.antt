-- The object is there, and has the value, or all is as it was.
use Rattle.std.proofs.Common.{◌≡◌, ℕ, List, Some, inr, sym, ap, subst, ◌∙◌, w64}
use Rattle.std.specs.Prelude.{slice_get}
use Rattle.std.proofs.lemmas.Int.{to_z-of_z}
use Rattle.reply_text.specs.declared.reply.Reply.TheVariants.{Refused}
use Rattle.reply_text.specs.declared.refusal.Refusal.TheVariants.{Covered}
use Rattle.object_store.specs.declared.slots.Named.{Named}
use Rattle.object_store.specs.declared.values.SetRefusal.{SetRefusal}
use Rattle.object_store.specs.State.{ObjectState}
use Rattle.object_store.specs.Elements.{element_kinds, element_number, element_sort}
use Rattle.object_store.specs.Inner.{seen}
use Rattle.object_store.specs.Kept.{Places, state_of, Replaces}
use Rattle.object_store.specs.Served.{AllServe}
use Rattle.object_store.specs.Serving.{IsGiven, IsUnset}
use Rattle.object_store.specs.Slots.{HasName}
use Rattle.object_store.specs.Views.{object_at}
use Rattle.object_store.proofs.Holders.{object_there}
use Rattle.object_store.proofs.Leads.{kind_there, name_found}
use Rattle.object_store.proofs.Telling.{given_row, given_serves, kept_given, unset_row}
use Rattle.object_store.proofs.tables.set_in.Goals as goal

same_name_there : (ps : Places) (k : ℕ) (name : List ℕ) → HasName ps name k → (n : Named) → slice_get ps k ≡ Some (Some n) → n.name ≡ name
same_name_there ps k name w n at =
    let both : Some (Some w.0) ≡ Some (Some n) = sym w.1 ∙ at in
    let one : w.0 ≡ n = cc in
    ap (λ (m : Named). m.name) (sym one) ∙ w.2

pub unreachable-requires : goal.unreachable-requires
unreachable-requires c = name_found c.args.slots.now c.args.cells.now c.requires.kept (element_kinds c.args.element) c.args.name.now c.requires.there c.in_default.ensures

pub set_at-requires-clause-there : goal.set_at-requires-clause-there
set_at-requires-clause-there c =
    let ps = c.args.slots.now in
    let cells = c.args.cells.now in
    let w = c.in-Some.ensures in
    let at = ap (λ x. object_at (state_of ps cells) x) (sym w.2) ∙ object_there ps cells c.requires.kept c.in-Some.slot w.0 w.1 in
    (w.0, w.1, record { kind = kind_there ps cells c.requires.kept (element_kinds c.args.element) c.in-Some.slot w.0 c.args.name.now w.1 w.2 c.requires.there; serves = c.requires.serve c.args.name.now (seen w.0.object) at })

pub returns-in-Ok-clause-kept : goal.returns-in-Ok-clause-kept
returns-in-Ok-clause-kept c =
    let r = subst (λ x. Replaces c.args.slots.now c.set_at.new.slots c.in-Some.slot (IsGiven c.args.element x)) (to_z-of_z w64 c.args.value c.ranges.value) c.in-Ok.ensures.ok in
    kept_given c.args.slots.now c.set_at.new.slots c.in-Some.slot c.args.cells.now c.requires.kept c.args.element c.args.value r

pub returns-in-Ok-clause-leads : goal.returns-in-Ok-clause-leads
returns-in-Ok-clause-leads c =
    let r = subst (λ x. Replaces c.args.slots.now c.set_at.new.slots c.in-Some.slot (IsGiven c.args.element x)) (to_z-of_z w64 c.args.value c.ranges.value) c.in-Ok.ensures.ok in
    inr (given_row c.args.slots.now c.set_at.new.slots c.in-Some.slot c.args.cells.now c.requires.kept c.args.element c.args.value r c.args.name.now
    (same_name_there c.args.slots.now c.in-Some.slot c.args.name.now c.in-Some.ensures r.old r.was))

pub returns-in-Ok-clause-serve : goal.returns-in-Ok-clause-serve
returns-in-Ok-clause-serve c =
    let r = subst (λ x. Replaces c.args.slots.now c.set_at.new.slots c.in-Some.slot (IsGiven c.args.element x)) (to_z-of_z w64 c.args.value c.ranges.value) c.in-Ok.ensures.ok in
    given_serves c.args.slots.now c.set_at.new.slots c.in-Some.slot c.args.cells.now c.requires.kept c.args.element c.args.value r c.args.name.now
    (same_name_there c.args.slots.now c.in-Some.slot c.args.name.now c.in-Some.ensures r.old r.was) c.args.g.now c.requires.serve

pub returns-in-Err-NotCovered-clause-leads : goal.returns-in-Err-NotCovered-clause-leads
returns-in-Err-NotCovered-clause-leads c =
    let ps = c.args.slots.now in
    let cells = c.args.cells.now in
    let s : ObjectState = state_of ps cells in
    let e = c.args.element in
    let got = c.in-Err-NotCovered.ensures.err in
    let at = ap (λ x. object_at s x) (sym (same_name_there ps c.in-Some.slot c.args.name.now c.in-Some.ensures got.0 got.1)) ∙ object_there ps cells c.requires.kept c.in-Some.slot got.0 got.1 in
    let uncovered = subst (λ (why : SetRefusal). IsUnset got.2.values (element_number e) why) c.in-Err-NotCovered.field-0-is got.2.unset in
    inr (unset_row (element_sort e) c.args.name.now (element_number e) s (seen got.0.object) got.2.values at got.2.has c.args.value uncovered
    ∙ (λ j. Some (state_of (sym c.in-Err-NotCovered.ensures.same j) cells, Refused (Covered (sym c.name.ensures j)))))

pub returns-in-Err-NotCovered-clause-serve : goal.returns-in-Err-NotCovered-clause-serve
returns-in-Err-NotCovered-clause-serve c =
    subst (λ (ps : Places). AllServe c.args.g.now (state_of ps c.args.cells.now)) (sym c.in-Err-NotCovered.ensures.same) c.requires.serve

pub returns-in-Err-NoMemory-clause-serve : goal.returns-in-Err-NoMemory-clause-serve
returns-in-Err-NoMemory-clause-serve c =
    subst (λ (ps : Places). AllServe c.args.g.now (state_of ps c.args.cells.now)) (sym c.in-Err-NoMemory.ensures.same) c.requires.serve
