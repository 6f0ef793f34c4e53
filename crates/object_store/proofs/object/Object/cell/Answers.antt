-- The container has the item.
use Rattle.std.proofs.Common.{[], ◌∷◌, Some, sym, ap, subst, ◌∙◌, rules, w64}
use Rattle.std.specs.Prelude.{ℤ, FitsSigned, IfOk}
use Rattle.std.proofs.lemmas.Int.{to_z-of_z}
use Rattle.object_store.specs.declared.object.Object.{Object}
use Rattle.object_store.specs.declared.object.Object.TheVariants as held
use Rattle.object_store.specs.Inner.{inner}
use Rattle.object_store.specs.Near.{HasThere}
use Rattle.object_store.specs.Shown.{IsShown}
use Rattle.object_store.proofs.Going.{list_lacks}
use Rattle.object_store.proofs.ItemsRead.{list_at}
use Rattle.object_store.proofs.Listings.{shown_if}
use Rattle.object_store.proofs.object.Object.cell.Goals as goal

pub unreachable-requires : goal.unreachable-requires
unreachable-requires c =
    let there = subst (λ (o : Object). HasThere c.args.item (inner o)) c.in-List.is c.requires.there in
    list_lacks c.args.item.serial c.in-List.list there.0 there.1 c.in-Err.ensures.0

pub returns-in-Ok : goal.returns-in-Ok
returns-in-Ok c =
    let e = c.in-Ok.entry.now in
    let fits : FitsSigned w64 e.value = search rules in
    subst (λ (o : Object). IfOk c.cell_with.result (λ x. IsShown (inner o) c.args.item.serial x)) (sym c.in-List.is)
    (shown_if c.cell_with.result (inner (held.List c.in-List.list)) c.args.item.serial _
    (list_at c.in-List.list c.args.item.serial e c.in-Ok.ensures ∙ ap (λ (z : ℤ). Some (e.number, z ∷ [])) (sym (to_z-of_z w64 e.value fits))) c.cell_with.ensures)
