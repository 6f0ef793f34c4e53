-- The queue has the item.
use Rattle.std.proofs.Common.{◌∷◌, [], ap, sym, ◌∙◌, rules, w64}
use Rattle.std.specs.Prelude.{FitsSigned}
use Rattle.std.proofs.lemmas.Int.{to_z-of_z}
use Rattle.object_store.specs.declared.part.Reading.{Reading}
use Rattle.object_store.specs.Words.{read}
use Rattle.object_store.proofs.Going.{queue_lacks}
use Rattle.object_store.proofs.ItemsRead.{queue_at, head_read}
use Rattle.object_store.proofs.look.read_queue.Goals as goal

pub unreachable-requires : goal.unreachable-requires
unreachable-requires c = queue_lacks c.args.item.serial c.args.queue.now c.requires.cell c.requires.there c.in-Err.ensures.0

pub unreachable-requires-in-Err-prio : goal.unreachable-requires-in-Err-prio
unreachable-requires-in-Err-prio c = queue_lacks c.args.item.serial c.args.queue.now c.requires.cell c.requires.there c.in-Err-prio.ensures.0

pub returns-in-Ok : goal.returns-in-Ok
returns-in-Ok c =
    let e = c.in-Ok.entry.now in
    let h = c.in-Ok.ensures in
    let fits : FitsSigned w64 e.value = search rules in (
      (e.number, h.0 ∷ e.value ∷ []),
      queue_at c.args.queue.now c.args.item.serial h.0 e h.1.0,
      to_z-of_z w64 e.value fits ∙ ap (λ (w : Reading). read w (h.0 ∷ e.value ∷ [])) (sym c.in-Information.is),
    )

pub returns-in-Ok-prio : goal.returns-in-Ok-prio
returns-in-Ok-prio c =
    let p = c.in-Ok-prio.priority in
    let h = c.in-Ok-prio.ensures in
    let fits : FitsSigned w64 p = search rules in (
      (h.0.number, p ∷ h.0.value ∷ []),
      queue_at c.args.queue.now c.args.item.serial p h.0 h.1.0,
      to_z-of_z w64 p fits ∙ head_read c.args.what (p ∷ h.0.value ∷ []) c.in-Contents.is,
    )
