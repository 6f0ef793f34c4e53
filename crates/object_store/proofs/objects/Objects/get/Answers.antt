-- The object is there, and tells the value, or that it has none.
use Rattle.std.proofs.Common.{◌≡◌, ℕ, List, Some, sym, ap, subst, ◌∙◌, rules, w64}
use Rattle.std.specs.Prelude.{slice_get, FitsSigned}
use Rattle.std.proofs.lemmas.Int.{to_z-of_z}
use Rattle.reply_text.specs.declared.reply.Reply.TheVariants.{Line, Refused}
use Rattle.reply_text.specs.declared.reply.ReplyLine.TheVariants.{Num}
use Rattle.reply_text.specs.declared.refusal.Refusal.TheVariants.{Covered}
use Rattle.item_pool.specs.Contents.{Contents}
use Rattle.object_store.specs.declared.objects.Place.{Place}
use Rattle.object_store.specs.declared.slots.Named.{Named}
use Rattle.object_store.specs.State.{ObjectState}
use Rattle.object_store.specs.Elements.{element_kinds, element_number, element_sort}
use Rattle.object_store.specs.Inner.{seen}
use Rattle.object_store.specs.Kept.{Places, state_of, IsKept}
use Rattle.object_store.specs.Serving.{IsTold}
use Rattle.object_store.specs.Slots.{found, HasName}
use Rattle.object_store.specs.Views.{has_object, object_at}
use Rattle.object_store.proofs.Holders.{object_there}
use Rattle.object_store.proofs.Leads.{kind_there, name_found}
use Rattle.object_store.proofs.Places.{named_at}
use Rattle.object_store.proofs.Telling.{told_row, untold_row}
use Rattle.object_store.proofs.objects.Objects.get.Goals as goal

pub unreachable-requires : goal.unreachable-requires
unreachable-requires c =
    let a = c.self.inside in
    let kinds = element_kinds c.args.element in
    name_found a.slots.items a.cells c.self.invariant kinds c.args.name.now (ap (λ (s : ObjectState). has_object s kinds c.args.name.now) c.self.view_is ∙ c.requires.there) (ap (λ (ps : Places). found c.args.name.now ps) (sym c.as_slice-slots.ensures.value) ∙ c.in_default.ensures)

pub value_at-requires-clause-there : goal.value_at-requires-clause-there
value_at-requires-clause-there c =
    let a = c.self.inside in
    let kinds = element_kinds c.args.element in
    let w = named_at a.slots.items c.as_slice-slots.result.now c.args.name.now c.in-Some.slot c.as_slice-slots.ensures.value c.in-Some.ensures in
    let has = ap (λ (s : ObjectState). has_object s kinds c.args.name.now) c.self.view_is ∙ c.requires.there in
    let at = ap (λ (s : ObjectState). object_at s c.args.name.now) (sym c.self.view_is) ∙ ap (λ x. object_at (state_of a.slots.items a.cells) x) (sym w.2) ∙ object_there a.slots.items a.cells c.self.invariant c.in-Some.slot w.0 w.1 in (
      w.0,
      ap (λ (ps : Places). slice_get ps c.in-Some.slot) c.as_slice-slots.ensures.value ∙ w.1,
      record { kind = kind_there a.slots.items a.cells c.self.invariant kinds c.in-Some.slot w.0 c.args.name.now w.1 w.2 has; serves = c.requires.serve c.args.name.now (seen w.0.object) at },
    )

-- the object of the name, once it is known at its place
there : (ps : Places) (cells : Contents Place) (kept : IsKept ps cells) (t : ObjectState) (k : ℕ) (name : List ℕ) → state_of ps cells ≡ t → HasName ps name k → (n : Named) → slice_get ps k ≡ Some (Some n) → object_at t name ≡ Some (seen n.object)
there ps cells kept t k name is w n at =
    let both : Some (Some w.0) ≡ Some (Some n) = sym w.1 ∙ at in
    let one : w.0 ≡ n = cc in
    let named : n.name ≡ name = ap (λ (m : Named). m.name) (sym one) ∙ w.2 in
    ap (λ (s : ObjectState). object_at s name) (sym is) ∙ ap (λ x. object_at (state_of ps cells) x) (sym named) ∙ object_there ps cells kept k n at

pub returns-in-Some-value_at-clause-leads : goal.returns-in-Some-value_at-clause-leads
returns-in-Some-value_at-clause-leads c =
    let a = c.self.inside in
    let e = c.args.element in
    let s = c.args.self.now in
    let w = named_at a.slots.items c.as_slice-slots.result.now c.args.name.now c.in-Some.slot c.as_slice-slots.ensures.value c.in-Some.ensures in
    let got = c.value_at.ensures in
    let at = there a.slots.items a.cells c.self.invariant s c.in-Some.slot c.args.name.now c.self.view_is w got.0 (ap (λ (ps : Places). slice_get ps c.in-Some.slot) (sym c.as_slice-slots.ensures.value) ∙ got.1) in
    let fits : FitsSigned w64 c.in-Some-value_at.value = search rules in
    told_row (element_sort e) c.args.name.now (element_number e) s (seen got.0.object) got.2.values at got.2.has c.in-Some-value_at.value
    (subst (λ r. IsTold got.2.values (element_number e) r) c.in-Some-value_at.is got.2.told)
    ∙ ap (λ x. Some (s, Line (Num x))) (sym (to_z-of_z w64 c.in-Some-value_at.value fits))

pub returns-in-None-clause-leads : goal.returns-in-None-clause-leads
returns-in-None-clause-leads c =
    let a = c.self.inside in
    let e = c.args.element in
    let s = c.args.self.now in
    let w = named_at a.slots.items c.as_slice-slots.result.now c.args.name.now c.in-Some.slot c.as_slice-slots.ensures.value c.in-Some.ensures in
    let got = c.value_at.ensures in
    let at = there a.slots.items a.cells c.self.invariant s c.in-Some.slot c.args.name.now c.self.view_is w got.0 (ap (λ (ps : Places). slice_get ps c.in-Some.slot) (sym c.as_slice-slots.ensures.value) ∙ got.1) in
    untold_row (element_sort e) c.args.name.now (element_number e) s (seen got.0.object) got.2.values at got.2.has
    (subst (λ r. IsTold got.2.values (element_number e) r) c.in-None.is got.2.told)
    ∙ ap (λ x. Some (s, Refused (Covered x))) (sym c.name.ensures)
