-- The first node is the least.
use Rattle.std.proofs.Common.{◌<◌, List, min, sym, ap, ◌∙◌, subst, arith}
use Rattle.item_queue.specs.declared.node.Node.{Node}
use Rattle.item_queue.specs.Heap.{node_at, entry_of, heap_room}
use Rattle.item_queue.specs.Contents.{Queued, IsLeastItem}
use Rattle.item_queue.proofs.Items.{items_empty}
use Rattle.item_queue.proofs.Queues.{least_first}
use Rattle.item_queue.proofs.Ties.{tied_none}
use Rattle.item_queue.proofs.queue.Queue.find_min.Goals as goal

pub returns : goal.returns
returns g c =
    let p = c.self.inside.pool in let h = c.self.inside.heap in let i = c.self.invariant in let z = c.if-self-eq0.false in let some : 0 < h.len = omega (arith, z) in
    subst (λ (l : List Node). IsLeastItem c.args.self.now (node_at l 0).item.serial) (sym c.as_slice.ensures.value)
    (subst (λ (q : Queued g.row.I.Denot). IsLeastItem q (node_at h.nodes.items 0).item.serial) c.self.view_is (least_first h p (min p.spare (heap_room h)) i.sound i.tied i.given some))

pub returns-then-self-eq0 : goal.returns-then-self-eq0
returns-then-self-eq0 g c =
    let p = c.self.inside.pool in
    ap (λ (q : Queued g.row.I.Denot). q.live) (sym c.self.view_is) ∙ items_empty p.live (tied_none c.self.inside.heap (entry_of p) c.self.invariant.tied c.if-self-eq0.true)
