-- The first node is the least.
use Rattle.std.proofs.Common.{rules, w64, ◌≡◌, ◌<◌, ◌≤◌, length, min, Some, None, sym, ap, ◌∙◌, subst, refl, arith}
use Rattle.std.specs.Prelude.{FitsSigned}
use Rattle.std.proofs.lemmas.Int.{to_z-of_z}
use Rattle.item_pool.specs.declared.pool.TheConstants.{MOST_SERIALS}
use Rattle.item_pool.specs.Contents.{Removes as PoolRemoves}
use Rattle.item_queue.specs.declared.node.Node.{Node}
use Rattle.item_queue.specs.Heap.{node_at, entry, entry_of, heap_room}
use Rattle.item_queue.specs.Contents.{Queued, queued}
use Rattle.item_queue.specs.Decreases.{RemovesLeast}
use Rattle.item_queue.specs.IsQueue.{items_of}
use Rattle.item_queue.proofs.Items.{items_empty}
use Rattle.item_queue.proofs.Queues.{least_taken, out_tied, out_given, out_items}
use Rattle.item_queue.proofs.Ties.{tied_none}
use Rattle.item_queue.proofs.queue.Queue.del_min.Goals as goal

pub returns-then-self-eq0 : goal.returns-then-self-eq0
returns-then-self-eq0 g c =
    let p = c.self.inside.pool in
    (ap (λ (q : Queued g.row.I.Denot). q.live) (sym c.self.view_is) ∙ items_empty p.live (tied_none c.self.inside.heap (entry_of p) c.self.invariant.tied c.if-self-eq0.true), refl)

pub unreachable-requires : goal.unreachable-requires
unreachable-requires g c =
    let f = c.self.inside in let a = c.take_at-node.result in let t = c.self.invariant.tied.found (node_at f.heap.nodes.items 0) c.take_at-node.ensures.less.held in
    let m = node_at f.heap.nodes.items 0 in
    let twice : None ≡ Some (entry m.handle m.priority t.0) = sym c.in-Err.ensures.0.0 ∙ ap (λ (b : Node). entry_of f.pool b.item.serial) c.take_at-node.ensures.taken ∙ t.1 in cc

pub invariant_of-self : goal.invariant_of-self
invariant_of-self g c =
    let f = c.self.inside in let i = c.self.invariant in let h = c.take_at-node.new.self in let q = c.remove.new.self in let e = c.in-Ok.field-0 in let m = node_at f.heap.nodes.items 0 in
    let out : PoolRemoves f.pool q m.item.serial e = subst (λ (b : Node). PoolRemoves f.pool q b.item.serial e) c.take_at-node.ensures.taken c.in-Ok.ensures in
    let less = c.take_at-node.ensures.less in let long : length h.nodes.items ≡ length f.heap.nodes.items = c.take_at-node.ensures.long.0.nodes in
    let few : length f.heap.nodes.items ≤ f.pool.made = i.few.0 in let most : f.pool.made ≤ MOST_SERIALS = i.few.1 in let made : q.made ≡ f.pool.made = out.made in
    record {
      sound = c.take_at-node.ensures.sound;
      tied = out_tied f.heap h m f.pool q e i.tied less out;
      given = out_given f.heap h m f.pool q e i.tied less out i.given;
      few = (omega (arith, long, few, made), omega (arith, most, made));
    }

pub returns : goal.returns
returns g c =
    let f = c.self.inside in let i = c.self.invariant in let h = c.take_at-node.new.self in let q = c.remove.new.self in let e = c.in-Ok.field-0 in let m = node_at f.heap.nodes.items 0 in
    let out : PoolRemoves f.pool q m.item.serial e = subst (λ (b : Node). PoolRemoves f.pool q b.item.serial e) c.take_at-node.ensures.taken c.in-Ok.ensures in
    let less = c.take_at-node.ensures.less in let z = c.if-self-eq0.false in let some : 0 < f.heap.len = omega (arith, z) in
    let least = least_taken f.heap f.pool e (min f.pool.spare (heap_room f.heap)) i.sound i.tied i.given some out.held.0 in
    let fits : FitsSigned w64 e.priority = search rules in
    let after : Queued g.row.I.Denot = queued (items_of q.live) q.made (min q.spare (heap_room h)) in
    let more : f.pool.spare ≤ q.spare = out.spare in let room = c.take_at-node.ensures.long.0.room in let size = c.take_at-node.ensures.long.1 in let fewer = room.0 in let less_places = room.1 in
    subst (λ z. RemovesLeast c.args.self.now after z e.inf) (sym (to_z-of_z w64 e.priority fits))
    (subst (λ (o : Queued g.row.I.Denot). RemovesLeast o after e.priority e.inf) c.self.view_is (
      m.item.serial,
      least,
      record {
        held = least.held;
        live = out_items f.heap h m f.pool q e i.tied less out;
        made = out.made;
        spare = omega (arith, more, fewer, less_places, size);
      },
    ))
