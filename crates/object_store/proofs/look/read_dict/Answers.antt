-- The dictionary has the item.
use Rattle.std.proofs.Common.{◌∷◌, [], ap, sym, ◌∙◌, rules, w64}
use Rattle.std.specs.Prelude.{FitsSigned}
use Rattle.std.proofs.lemmas.Int.{to_z-of_z}
use Rattle.object_store.specs.declared.part.Reading.{Reading}
use Rattle.object_store.specs.Words.{read}
use Rattle.object_store.proofs.Going.{dict_lacks}
use Rattle.object_store.proofs.ItemsRead.{dict_at, head_read}
use Rattle.object_store.proofs.look.read_dict.Goals as goal

pub unreachable-requires : goal.unreachable-requires
unreachable-requires c = dict_lacks c.args.item.serial c.args.dict.now c.requires.cell c.requires.there c.in-Err.ensures.0

pub unreachable-requires-in-Err-key : goal.unreachable-requires-in-Err-key
unreachable-requires-in-Err-key c = dict_lacks c.args.item.serial c.args.dict.now c.requires.cell c.requires.there c.in-Err-key.ensures.0

pub returns-in-Ok : goal.returns-in-Ok
returns-in-Ok c =
    let e = c.in-Ok.entry.now in
    let h = c.in-Ok.ensures in
    let fits : FitsSigned w64 e.value = search rules in (
      (e.number, h.0 ∷ e.value ∷ []),
      dict_at c.args.dict.now h.0 c.args.item.serial e c.requires.distinct h.1,
      to_z-of_z w64 e.value fits ∙ ap (λ (w : Reading). read w (h.0 ∷ e.value ∷ [])) (sym c.in-Information.is),
    )

pub returns-in-Ok-key : goal.returns-in-Ok-key
returns-in-Ok-key c =
    let k = c.in-Ok-key.key in
    let h = c.in-Ok-key.ensures in
    let fits : FitsSigned w64 k = search rules in (
      (h.0.number, k ∷ h.0.value ∷ []),
      dict_at c.args.dict.now k c.args.item.serial h.0 c.requires.distinct h.1,
      to_z-of_z w64 k fits ∙ head_read c.args.what (k ∷ h.0.value ∷ []) c.in-Contents.is,
    )
