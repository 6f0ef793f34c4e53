-- The entry and its node get the priority together.
use Rattle.std.proofs.Common.{rules, w64, to_z, of_z, ◌≡◌, ◌<◌, ◌≤◌, length, min, sym, ap, ◌∙◌, subst, refl, arith}
use Rattle.std.specs.Prelude.{FitsSigned, ◌≤ℤ◌}
use Rattle.std.proofs.lemmas.Int.{to_z-of_z, ints}
use Rattle.item_pool.specs.declared.pool.TheConstants.{MOST_SERIALS}
use Rattle.item_queue.specs.Heap.{node_at, entry_of, priced_of, heap_room, HasOneLower, IsRated}
use Rattle.item_queue.specs.Contents.{Queued, queued, Holds, HoldsPriority, Lacks}
use Rattle.item_queue.specs.Decreases.{Decreases}
use Rattle.item_queue.specs.IsQueue.{items_of}
use Rattle.item_queue.proofs.Items.{get_items}
use Rattle.item_queue.proofs.Queues.{low_tied, low_given, low_items}
use Rattle.item_queue.proofs.Ties.{leads}
use Rattle.item_queue.proofs.queue.Queue.decrease_p.Goals as goal

pub returns-in-Err : goal.returns-in-Err
returns-in-Err g c =
    let s = c.args.it.serial in let h = c.in-Err.ensures in
    (subst (λ (q : Queued g.row.I.Denot). Lacks q s c.in-Err.gone) c.self.view_is (get_items c.self.inside.pool.live s ∙ ap priced_of h.0, h.1), refl)

pub returns-then-priority-p : goal.returns-then-priority-p
returns-then-priority-p g c =
    let f = c.self.inside in let e = c.in-Ok.entry.now in let h = c.in-Ok.ensures in let s = c.args.it.serial in
    let fits : FitsSigned w64 e.priority = search rules in let once = to_z-of_z w64 e.priority fits in let t = c.if-priority-p.true in
    let held = subst (λ (q : Queued g.row.I.Denot). Holds q s e.priority e.inf) c.self.view_is (get_items f.pool.live s ∙ ap priced_of h.0, h.1, h.2) in
    ((subst (λ z. HoldsPriority c.args.self.now s z) (sym (ap (λ z. to_z w64 (of_z w64 z)) once ∙ once)) (e.inf, held), grind (arith, ints)), refl)

pub place_of-place-requires : goal.place_of-place-requires
place_of-place-requires g c =
    let f = c.self.inside in let i = c.self.invariant in (leads f.heap (entry_of f.pool) i.sound i.tied c.args.it.serial c.in-Ok.entry.now c.in-Ok.ensures.0).3

pub lower-requires-clause-within : goal.lower-requires-clause-within
lower-requires-clause-within g c =
    let f = c.self.inside in let i = c.self.invariant in let to = leads f.heap (entry_of f.pool) i.sound i.tied c.args.it.serial c.in-Ok.entry.now c.in-Ok.ensures.0 in
    let few : length f.heap.nodes.items ≤ f.pool.made = i.few.0 in let most : f.pool.made ≤ MOST_SERIALS = i.few.1 in
    (subst (λ k. k < f.heap.len) (sym c.place_of-place.ensures) to.0, omega (arith, few, most))

pub lower-requires-clause-less : goal.lower-requires-clause-less
lower-requires-clause-less g c =
    let f = c.self.inside in let i = c.self.invariant in let e = c.in-Ok.entry.now in let to = leads f.heap (entry_of f.pool) i.sound i.tied c.args.it.serial e c.in-Ok.ensures.0 in
    let fits : FitsSigned w64 e.priority = search rules in let t = c.if-priority-p.false in let le : c.args.p ≤ℤ e.priority = grind (arith, ints) in
    let at = ap (λ k. (node_at f.heap.nodes.items k).priority) c.place_of-place.ensures ∙ to.2 in
    subst (λ z. z ≤ℤ (node_at f.heap.nodes.items c.place_of-place.result).priority) (sym (to_z-of_z w64 c.args.p c.ranges.p)) (subst (λ z. c.args.p ≤ℤ z) (sym at) le)

pub invariant_of-self : goal.invariant_of-self
invariant_of-self g c =
    let f = c.self.inside in let i = c.self.invariant in let e = c.in-Ok.entry.now in let s = c.args.it.serial in let had = c.in-Ok.ensures.0 in
    let to = leads f.heap (entry_of f.pool) i.sound i.tied s e had in let m = node_at f.heap.nodes.items c.place_of-place.result in let h = c.lower.new.self in let q = c.rate.new.pool in
    let serial : m.item.serial ≡ s = ap (λ k. (node_at f.heap.nodes.items k).item.serial) c.place_of-place.ensures ∙ to.1 in let once = to_z-of_z w64 c.args.p c.ranges.p in
    let low : HasOneLower f.heap h m c.args.p = subst (λ z. HasOneLower f.heap h m z) once c.lower.ensures.lower in
    let rated : IsRated f.pool q m.item.serial c.args.p = subst (λ j. IsRated f.pool q j c.args.p) (sym serial) (subst (λ z. IsRated f.pool q s z) once c.rate.ensures) in
    let had' = ap (entry_of f.pool) serial ∙ had in let long : length h.nodes.items ≡ length f.heap.nodes.items = c.lower.ensures.long.0.nodes in
    let few : length f.heap.nodes.items ≤ f.pool.made = i.few.0 in let most : f.pool.made ≤ MOST_SERIALS = i.few.1 in let made : q.made ≡ f.pool.made = rated.made in
    record {
      sound = c.lower.ensures.sound;
      tied = low_tied f.heap h m f.pool q c.args.p e i.tied low had' rated;
      given = low_given f.heap h m f.pool q c.args.p e i.tied low had' rated i.given;
      few = (omega (arith, long, few, made), omega (arith, most, made));
    }

pub returns : goal.returns
returns g c =
    let f = c.self.inside in let i = c.self.invariant in let e = c.in-Ok.entry.now in let s = c.args.it.serial in let had = c.in-Ok.ensures.0 in
    let to = leads f.heap (entry_of f.pool) i.sound i.tied s e had in let m = node_at f.heap.nodes.items c.place_of-place.result in let h = c.lower.new.self in let q = c.rate.new.pool in
    let serial : m.item.serial ≡ s = ap (λ k. (node_at f.heap.nodes.items k).item.serial) c.place_of-place.ensures ∙ to.1 in let once = to_z-of_z w64 c.args.p c.ranges.p in
    let low : HasOneLower f.heap h m c.args.p = subst (λ z. HasOneLower f.heap h m z) once c.lower.ensures.lower in
    let rated : IsRated f.pool q m.item.serial c.args.p = subst (λ j. IsRated f.pool q j c.args.p) (sym serial) (subst (λ z. IsRated f.pool q s z) once c.rate.ensures) in
    let had' = ap (entry_of f.pool) serial ∙ had in let room = c.lower.ensures.long.0.room in let one = room.0 in let two = room.1 in let size = c.lower.ensures.long.1 in let kept : q.spare ≡ f.pool.spare = rated.spare in
    let fits : FitsSigned w64 e.priority = search rules in let t = c.if-priority-p.false in let le : c.args.p ≤ℤ e.priority = grind (arith, ints) in
    let before : Queued g.row.I.Denot = queued (items_of f.pool.live) f.pool.made (min f.pool.spare (heap_room f.heap)) in
    let after : Queued g.row.I.Denot = queued (items_of q.live) q.made (min q.spare (heap_room h)) in
    subst (λ (o : Queued g.row.I.Denot). Decreases o after s c.args.p) c.self.view_is (subst (λ t. Decreases before after t c.args.p) serial (
      e.priority,
      e.inf,
      record {
        held = (get_items f.pool.live m.item.serial ∙ ap priced_of had', subst (λ j. 0 < j) (sym serial) c.in-Ok.ensures.1, subst (λ j. j ≤ f.pool.made) (sym serial) c.in-Ok.ensures.2);
        live = low_items f.heap h m f.pool q c.args.p e i.tied low had' rated;
        made = rated.made;
        spare = omega (arith, kept, one, two, size);
      },
      le,
    ))
