-- The entry and its node go together.
use Rattle.std.proofs.Common.{◌≡◌, ◌<◌, ◌≤◌, length, min, sym, ap, ◌∙◌, subst, arith}
use Rattle.std.proofs.lemmas.Result.{err_from_is_err_and}
use Rattle.item_pool.specs.declared.pool.TheConstants.{MOST_SERIALS}
use Rattle.item_pool.specs.Contents.{Contents, Removes as PoolRemoves}
use Rattle.item_queue.specs.declared.node.Entry.{Entry}
use Rattle.item_queue.specs.Heap.{node_at, entry_of, priced_of, heap_room}
use Rattle.item_queue.specs.Contents.{Queued, queued, Lacks, RemovesItem}
use Rattle.item_queue.specs.IsQueue.{items_of, seen}
use Rattle.item_queue.proofs.Items.{get_items}
use Rattle.item_queue.proofs.Queues.{out_tied, out_given, out_items}
use Rattle.item_queue.proofs.Ties.{leads}
use Rattle.item_queue.proofs.queue.Queue.del_item.Goals as goal

pub returns-in_err-handle : goal.returns-in_err-handle
returns-in_err-handle g c =
    let s = c.args.it.serial in let h = c.in_err-handle.ensures in
    let lacks = subst (λ (q : Queued g.row.I.Denot). Lacks q s c.in_err-handle.field-0.0) c.self.view_is (get_items c.self.inside.pool.live s ∙ ap priced_of h.0.0, h.0.1) in
    let same : seen (record { heap = c.self.inside.heap; pool = c.remove.new.self }) ≡ c.args.self.now =
    ap (λ (o : Contents (Entry g.row.I.Denot)). seen (record { heap = c.self.inside.heap; pool = o })) h.1 ∙ c.self.view_is in
    let p = err_from_is_err_and c.from_residual.result c.from_residual.ensures.1 in rw (p.1, p.2) (lacks, same)

pub place_of-place-requires : goal.place_of-place-requires
place_of-place-requires g c =
    let f = c.self.inside in let i = c.self.invariant in (leads f.heap (entry_of f.pool) i.sound i.tied c.args.it.serial c.in_ok-handle.field-0 c.in_ok-handle.ensures.held.0).3

pub take_at-node-requires-clause-within : goal.take_at-node-requires-clause-within
take_at-node-requires-clause-within g c =
    let f = c.self.inside in let i = c.self.invariant in let to = leads f.heap (entry_of f.pool) i.sound i.tied c.args.it.serial c.in_ok-handle.field-0 c.in_ok-handle.ensures.held.0 in
    let few : length f.heap.nodes.items ≤ f.pool.made = i.few.0 in let most : f.pool.made ≤ MOST_SERIALS = i.few.1 in
    (subst (λ k. k < f.heap.len) (sym c.place_of-place.ensures) to.0, omega (arith, few, most))

pub invariant_of-self-2 : goal.invariant_of-self-2
invariant_of-self-2 g c =
    let f = c.self.inside in let i = c.self.invariant in let s = c.args.it.serial in let h = c.take_at-node.new.self in let q = c.remove.new.self in let e = c.in_ok-handle.field-0 in
    let to = leads f.heap (entry_of f.pool) i.sound i.tied s e c.in_ok-handle.ensures.held.0 in let m = node_at f.heap.nodes.items c.place_of-place.result in
    let serial : m.item.serial ≡ s = ap (λ k. (node_at f.heap.nodes.items k).item.serial) c.place_of-place.ensures ∙ to.1 in
    let out : PoolRemoves f.pool q m.item.serial e = subst (λ j. PoolRemoves f.pool q j e) (sym serial) c.in_ok-handle.ensures in
    let less = c.take_at-node.ensures.less in let long : length h.nodes.items ≡ length f.heap.nodes.items = c.take_at-node.ensures.long.0.nodes in
    let few : length f.heap.nodes.items ≤ f.pool.made = i.few.0 in let most : f.pool.made ≤ MOST_SERIALS = i.few.1 in let made : q.made ≡ f.pool.made = out.made in
    record {
      sound = c.take_at-node.ensures.sound;
      tied = out_tied f.heap h m f.pool q e i.tied less out;
      given = out_given f.heap h m f.pool q e i.tied less out i.given;
      few = (omega (arith, long, few, made), omega (arith, most, made));
    }

pub returns : goal.returns
returns g c =
    let f = c.self.inside in let i = c.self.invariant in let s = c.args.it.serial in let h = c.take_at-node.new.self in let q = c.remove.new.self in let e = c.in_ok-handle.field-0 in
    let to = leads f.heap (entry_of f.pool) i.sound i.tied s e c.in_ok-handle.ensures.held.0 in let m = node_at f.heap.nodes.items c.place_of-place.result in
    let serial : m.item.serial ≡ s = ap (λ k. (node_at f.heap.nodes.items k).item.serial) c.place_of-place.ensures ∙ to.1 in
    let out : PoolRemoves f.pool q m.item.serial e = subst (λ j. PoolRemoves f.pool q j e) (sym serial) c.in_ok-handle.ensures in
    let after : Queued g.row.I.Denot = queued (items_of q.live) q.made (min q.spare (heap_room h)) in
    let more : f.pool.spare ≤ q.spare = out.spare in let room = c.take_at-node.ensures.long.0.room in let size = c.take_at-node.ensures.long.1 in let fewer = room.0 in let less_places = room.1 in
    subst (λ (o : Queued g.row.I.Denot). RemovesItem o after s e.inf) c.self.view_is (subst (λ t. RemovesItem (queued (items_of f.pool.live) f.pool.made (min f.pool.spare (heap_room f.heap))) after t e.inf) serial (
      e.priority,
      record {
        held = (get_items f.pool.live m.item.serial ∙ ap priced_of out.held.0, out.held.1, out.held.2);
        live = out_items f.heap h m f.pool q e i.tied c.take_at-node.ensures.less out;
        made = out.made;
        spare = omega (arith, more, fewer, less_places, size);
      },
    ))
