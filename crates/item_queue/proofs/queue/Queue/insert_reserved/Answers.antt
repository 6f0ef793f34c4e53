-- The entry and its node come together.
use Rattle.std.proofs.Common.{w64, to_z, of_z, ◌≡◌, ◌+◌, ◌<◌, ◌≤◌, length, min, ap, ◌∙◌, subst, arith}
use Rattle.std.specs.FinMap as map
use Rattle.std.proofs.lemmas.Int.{to_z-of_z}
use Rattle.item_pool.specs.declared.pool.TheConstants.{MOST_SERIALS}
use Rattle.item_queue.specs.declared.node.Node.{Node}
use Rattle.item_queue.specs.Heap.{priced_of, heap_room}
use Rattle.item_queue.specs.Contents.{Queued, queued, Inserts}
use Rattle.item_queue.specs.IsQueue.{items_of}
use Rattle.item_queue.proofs.Items.{get_items}
use Rattle.item_queue.proofs.Queues.{in_tied, in_given, in_items}
use Rattle.item_queue.proofs.queue.Queue.insert_reserved.Goals as goal

pub invariant_of-self : goal.invariant_of-self
invariant_of-self g c =
    let f = c.self.inside in let i = c.self.invariant in let h = c.insert.new.self in let q = c.insert_reserved-item.new.self in let ins = c.insert_reserved-item.ensures in
    let a : Node = record { priority = to_z w64 (of_z w64 c.args.p); item = c.insert_reserved-item.result; handle = c.next_handle-handle.result } in
    let made : q.made ≡ f.pool.made + 1 = ins.made in let within : f.pool.made < MOST_SERIALS = ins.within in let few : length f.heap.nodes.items ≤ f.pool.made = i.few.0 in let long = c.insert.ensures.long in
    record {
      sound = c.insert.ensures.sound;
      tied = in_tied f.heap h a f.pool q c.args.i i.tied c.insert.ensures.more ins;
      given = in_given f.heap h a f.pool q c.args.i i.tied c.insert.ensures.more ins i.given;
      few = (omega (arith, long, few, made), omega (arith, made, within));
    }

pub returns : goal.returns
returns g c =
    let f = c.self.inside in let i = c.self.invariant in let h = c.insert.new.self in let q = c.insert_reserved-item.new.self in let ins = c.insert_reserved-item.ensures in
    let a : Node = record { priority = to_z w64 (of_z w64 c.args.p); item = c.insert_reserved-item.result; handle = c.next_handle-handle.result } in
    let after : Queued g.row.I.Denot = queued (items_of q.live) q.made (min q.spare (heap_room h)) in
    let lower : f.pool.spare ≤ q.spare + 1 = ins.spare in let room : heap_room h + 1 ≡ heap_room f.heap = c.insert.ensures.room in
    subst (λ (o : Queued g.row.I.Denot). Inserts o after c.insert_reserved-item.result c.args.p c.args.i) c.self.view_is (record {
      serial = ins.serial;
      fresh = get_items f.pool.live (f.pool.made + 1) ∙ ap priced_of ins.fresh;
      live = in_items f.heap h a f.pool q c.args.i i.tied c.insert.ensures.more ins
          ∙ ap (λ z. map.insert (items_of f.pool.live) (f.pool.made + 1) (z, c.args.i)) (to_z-of_z w64 c.args.p c.ranges.p);
      made = ins.made;
      spare = omega (arith, lower, room);
      within = ins.within;
    })
