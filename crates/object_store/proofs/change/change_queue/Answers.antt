-- The queue has the item, which then has the information or the priority.
use Rattle.std.proofs.Common.{subst, sym, rules, w64}
use Rattle.std.specs.Prelude.{FitsSigned}
use Rattle.std.proofs.lemmas.Int.{to_z-of_z}
use Rattle.object_store.specs.declared.change.Change.{Change}
use Rattle.object_store.specs.declared.object.Object.TheVariants as held
use Rattle.item_queue.specs.declared.queue.DecreaseRefusal.{DecreaseRefusal}
use Rattle.item_queue.specs.declared.queue.DecreaseRefusal.TheVariants.{Gone, Larger}
use Rattle.item_queue.specs.Decreases.{Decreases, RefusesDecrease}
use Rattle.object_store.specs.Change.{Allows, IsChanged}
use Rattle.object_store.proofs.Changes.{queue_written, queue_lowered, not_larger}
use Rattle.object_store.proofs.Going.{queue_lacks}
use Rattle.object_store.proofs.change.change_queue.Goals as goal

pub unreachable-requires : goal.unreachable-requires
unreachable-requires c =
    let a = subst (λ (change : Change). Allows change (held.Queue c.args.queue.now)) c.in-Write.is c.requires in
    queue_lacks c.in-Write.item.serial c.args.queue.now a.0 a.1 c.in-Err.ensures.0.0

pub unreachable-requires-in-Err-decrease_p : goal.unreachable-requires-in-Err-decrease_p
unreachable-requires-in-Err-decrease_p c =
    let q = c.args.queue.now in
    let a = subst (λ (change : Change). Allows change (held.Queue q)) c.in-Lower.is c.requires in
    let fits : FitsSigned w64 c.in-Lower.priority = search rules in
    elim c.in-Err-decrease_p.field-0 as (λ (why : DecreaseRefusal). RefusesDecrease q c.in-Lower.item.serial c.in-Lower.priority why → ⊥) [
      | Gone why ↦ λ h. queue_lacks c.in-Lower.item.serial q a.0 a.1 h.0
      | Larger o ↦ λ h. not_larger q c.in-Lower.item c.in-Lower.priority o a h.0 h.1
    ] (subst (λ z. RefusesDecrease q c.in-Lower.item.serial z c.in-Err-decrease_p.field-0) (to_z-of_z w64 c.in-Lower.priority fits) c.in-Err-decrease_p.ensures.0)

pub returns-in-Ok : goal.returns-in-Ok
returns-in-Ok c =
    subst (λ (change : Change). IsChanged change (held.Queue c.args.queue.now) (held.Queue c.change_inf.new.self)) (sym c.in-Write.is)
    (queue_written c.in-Write.item c.in-Write.entry c.in-Ok.field-0 c.args.queue.now c.change_inf.new.self c.in-Ok.ensures.0 c.in-Ok.ensures.1)

pub returns-in-Ok-decrease_p : goal.returns-in-Ok-decrease_p
returns-in-Ok-decrease_p c =
    let q = c.args.queue.now in
    let fits : FitsSigned w64 c.in-Lower.priority = search rules in
    let h = subst (λ z. Decreases q c.decrease_p.new.self c.in-Lower.item.serial z) (to_z-of_z w64 c.in-Lower.priority fits) c.in-Ok-decrease_p.ensures in
    subst (λ (change : Change). IsChanged change (held.Queue q) (held.Queue c.decrease_p.new.self)) (sym c.in-Lower.is)
    (queue_lowered c.in-Lower.item q c.decrease_p.new.self c.in-Lower.priority h.0 h.1 h.2)
