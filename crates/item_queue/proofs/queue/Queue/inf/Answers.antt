-- The entry of the item has the information.
use Rattle.std.proofs.Common.{ap, ◌∙◌, subst}
use Rattle.item_queue.specs.Heap.{priced_of}
use Rattle.item_queue.specs.Contents.{Queued, Holds, Lacks}
use Rattle.item_queue.proofs.Items.{get_items}
use Rattle.item_queue.proofs.queue.Queue.inf.Goals as goal

pub returns-in-Ok : goal.returns-in-Ok
returns-in-Ok g c =
    let s = c.args.it.serial in let e = c.in-Ok.entry.now in let h = c.in-Ok.ensures in
    (c.in-Ok.entry.now.priority, subst (λ (q : Queued g.row.I.Denot). Holds q s e.priority e.inf) c.self.view_is (get_items c.self.inside.pool.live s ∙ ap priced_of h.0, h.1, h.2))

pub returns-in-Err : goal.returns-in-Err
returns-in-Err g c =
    let s = c.args.it.serial in let h = c.in-Err.ensures in
    subst (λ (q : Queued g.row.I.Denot). Lacks q s c.in-Err.gone) c.self.view_is (get_items c.self.inside.pool.live s ∙ ap priced_of h.0, h.1)
