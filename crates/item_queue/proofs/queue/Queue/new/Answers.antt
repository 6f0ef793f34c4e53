-- There is no node.
use Rattle.std.proofs.Common.{◌≡◌, ℕ, ◌<◌, min, Some, None, sym, ap, ◌∙◌, arith}
use Rattle.std.specs.FinMap as map
use Rattle.std.specs.Ordering.{nat_cmp}
use Rattle.item_pool.specs.Contents.{Contents}
use Rattle.item_queue.specs.declared.node.Entry.{Entry}
use Rattle.item_queue.specs.Contents.{queued}
use Rattle.item_queue.specs.Heap.{heap_room}
use Rattle.item_queue.proofs.Items.{items_empty}
use Rattle.item_queue.proofs.queue.Queue.new.Goals as goal

pub invariant_of-result : goal.invariant_of-result
invariant_of-result g c = record {
  sound = c.new.ensures.sound;
  tied = record {
    found = λ a live. let z = c.new.ensures.empty.0 in let lt : live.0 < c.new.result.len = live.1 in absurd (omega (arith, z, lt));
    placed = λ s e is. let twice : None ≡ Some e = sym (ap (λ (p : Contents (Entry g.row.I.Denot)). map.get p.live s) c.new-2.ensures ∙ map.get-empty nat_cmp s) ∙ is in cc;
  };
  given = λ s e is. let twice : None ≡ Some e = sym (ap (λ (p : Contents (Entry g.row.I.Denot)). map.get p.live s) c.new-2.ensures ∙ map.get-empty nat_cmp s) ∙ is in cc;
  few = (let z = c.new.ensures.empty.1 in omega (arith, z), let m = ap (λ (p : Contents (Entry g.row.I.Denot)). p.made) c.new-2.ensures in omega (arith, m));
}

pub returns : goal.returns
returns g c =
    let p = c.new-2.result in
    let live : (s : ℕ) → map.get p.live s ≡ None = λ s. ap (λ (o : Contents (Entry g.row.I.Denot)). map.get o.live s) c.new-2.ensures ∙ map.get-empty nat_cmp s in
    let room = ap (λ (o : Contents (Entry g.row.I.Denot)). o.spare) c.new-2.ensures in
    let none : min p.spare (heap_room c.new.result) ≡ 0 = omega (arith, room) in
    λ i. queued (items_empty p.live live i) (c.new-2.ensures i).made (none i)
