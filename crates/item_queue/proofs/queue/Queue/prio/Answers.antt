-- The entry of the item has the priority.
use Rattle.std.proofs.Common.{rules, w64}
use Rattle.std.specs.Prelude.{FitsSigned}
use Rattle.std.proofs.lemmas.Int.{to_z-of_z}
use Rattle.std.proofs.Common.{sym, ap, ◌∙◌, subst}
use Rattle.item_queue.specs.Heap.{priced_of}
use Rattle.item_queue.specs.Contents.{Queued, Holds, Lacks}
use Rattle.item_queue.proofs.Items.{get_items}
use Rattle.item_queue.proofs.queue.Queue.prio.Goals as goal

pub returns-in-Ok : goal.returns-in-Ok
returns-in-Ok g c =
    let s = c.args.it.serial in let e = c.in-Ok.entry.now in let h = c.in-Ok.ensures in
    let fits : FitsSigned w64 e.priority = search rules in
    (e.inf, subst (λ z. Holds c.args.self.now s z e.inf) (sym (to_z-of_z w64 e.priority fits)) (subst (λ (q : Queued g.row.I.Denot). Holds q s e.priority e.inf) c.self.view_is (get_items c.self.inside.pool.live s ∙ ap priced_of h.0, h.1, h.2)))

pub returns-in-Err : goal.returns-in-Err
returns-in-Err g c =
    let s = c.args.it.serial in let h = c.in-Err.ensures in
    subst (λ (q : Queued g.row.I.Denot). Lacks q s c.in-Err.gone) c.self.view_is (get_items c.self.inside.pool.live s ∙ ap priced_of h.0, h.1)
