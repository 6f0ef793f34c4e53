-- The queue has the item.
use Rattle.std.proofs.Common.{◌≡◌, [], ◌∷◌, Option, Some, sym, ap, ◌∙◌, rules, w64}
use Rattle.std.specs.Prelude.{ℤ, FitsSigned}
use Rattle.std.proofs.lemmas.Int.{to_z-of_z}
use Rattle.object_store.specs.declared.object.Entry.{Entry}
use Rattle.object_store.specs.declared.object.Object.TheVariants as held
use Rattle.object_store.specs.Inner.{inner}
use Rattle.object_store.proofs.Going.{queue_lacks}
use Rattle.object_store.proofs.ItemsRead.{queue_at}
use Rattle.object_store.proofs.Listings.{shown_if}
use Rattle.object_store.proofs.shown.queue_cell.Goals as goal

same_priority : (p r : ℤ) (x y : Entry) → ◌≡◌ {A = Option (ℤ × Entry)} (Some (p, x)) (Some (r, y)) → p ≡ r
same_priority p r x y e = let one : ◌≡◌ {A = ℤ × Entry} (p, x) (r, y) = cc in ap (λ (z : ℤ × Entry). z.0) one

pub unreachable-requires : goal.unreachable-requires
unreachable-requires c = queue_lacks c.args.item.serial c.args.queue.now c.requires.0 c.requires.1 c.in_default.ensures.0

pub unreachable-requires-in-Err : goal.unreachable-requires-in-Err
unreachable-requires-in-Err c = queue_lacks c.args.item.serial c.args.queue.now c.requires.0 c.requires.1 c.in-Err.ensures.0

pub returns : goal.returns
returns c =
    let q = c.args.queue.now in
    let s = c.args.item.serial in
    let e = c.in-Ok-inf.entry.now in
    let p = c.in-Ok.priority in
    let has = c.in-Ok.ensures in
    let inf = c.in-Ok-inf.ensures in
    let same : inf.0 ≡ p = same_priority inf.0 p e has.0 (sym inf.1.0 ∙ has.1.0) in
    let fits : FitsSigned w64 e.value = search rules in
    let priority_fits : FitsSigned w64 p = search rules in
    shown_if c.cell_with.result (inner (held.Queue q)) s _
    (queue_at q s inf.0 e inf.1.0 ∙ (λ j. Some (e.number, (same ∙ sym (to_z-of_z w64 p priority_fits)) j ∷ sym (to_z-of_z w64 e.value fits) j ∷ []))) c.cell_with.ensures
