-- The dictionary has the item.
use Rattle.std.proofs.Common.{◌≡◌, [], ◌∷◌, Some, sym, ap, ◌∙◌, rules, w64}
use Rattle.std.specs.Prelude.{FitsSigned}
use Rattle.std.proofs.lemmas.Int.{to_z-of_z}
use Rattle.object_store.specs.declared.object.Object.TheVariants as held
use Rattle.object_store.specs.State.{Cell}
use Rattle.object_store.specs.Cells.{head_of}
use Rattle.object_store.specs.Inner.{inner}
use Rattle.object_store.proofs.Going.{dict_lacks}
use Rattle.object_store.proofs.ItemsRead.{dict_at}
use Rattle.object_store.proofs.Listings.{shown_if}
use Rattle.object_store.proofs.shown.dict_cell.Goals as goal

some_same : {A : Type 0} (a b : A) → Some a ≡ Some b → a ≡ b
some_same a b e = cc

pub unreachable-requires : goal.unreachable-requires
unreachable-requires c = dict_lacks c.args.item.serial c.args.dict.now c.requires.there.0 c.requires.there.1 c.in_default.ensures.0

pub unreachable-requires-in-Err : goal.unreachable-requires-in-Err
unreachable-requires-in-Err c = dict_lacks c.args.item.serial c.args.dict.now c.requires.there.0 c.requires.there.1 c.in-Err.ensures.0

pub returns : goal.returns
returns c =
    let d = c.args.dict.now in
    let s = c.args.item.serial in
    let e = c.in-Ok-inf.entry.now in
    let k = c.in-Ok.key in
    let has = c.in-Ok.ensures in
    let inf = c.in-Ok-inf.ensures in
    let first : Cell = (has.0.number, k ∷ has.0.value ∷ []) in
    let second : Cell = (e.number, inf.0 ∷ e.value ∷ []) in
    let there = dict_at d inf.0 s e c.requires.distinct inf.1 in
    let same : inf.0 ≡ k = ap (λ (x : Cell). head_of x.1) (some_same second first (sym there ∙ dict_at d k s has.0 c.requires.distinct has.1)) in
    let fits : FitsSigned w64 e.value = search rules in
    let key_fits : FitsSigned w64 k = search rules in
    shown_if c.cell_with.result (inner (held.Dict d)) s _
    (there ∙ (λ j. Some (e.number, (same ∙ sym (to_z-of_z w64 k key_fits)) j ∷ sym (to_z-of_z w64 e.value fits) j ∷ []))) c.cell_with.ensures
