-- Private: what holds of the fields of a queue, and what a contract sees of them.
use Rattle.std.specs.Prelude.{◌≡◌, ℕ, ℤ, ◌<◌, ◌≤◌, List, [], ◌∷◌, length, min, Some}
use Rattle.std.specs.Ordering.{nat_cmp}
use Rattle.std.specs.FinMap as map
use Rattle.item_pool.specs.declared.pool.TheConstants.{MOST_SERIALS}
use Rattle.item_queue.specs.declared.node.Entry.{Entry}
use Rattle.item_queue.specs.declared.queue.Queue.TheInside.{Inside}
use Rattle.item_queue.specs.Contents.{Queued, queued}
use Rattle.item_queue.specs.Heap.{entry_of, priced, heap_room, IsSound, IsTied}

module _ {X : Type 0} where
  abbrev pub without_handles : List (ℕ × Entry X) → List (ℕ × (ℤ × X))
  without_handles [] = []
  without_handles (e ∷ es) = (e.0, priced e.1) ∷ without_handles es

  -- the priority and the information of each item
  abbrev pub items_of : map.FinMap nat_cmp (Entry X) → map.FinMap nat_cmp (ℤ × X)
  items_of live = map.from_sorted (without_handles (map.entries live))

  abbrev pub seen : Inside X → Queued X
  seen q = queued (items_of q.pool.live) q.pool.made (min q.pool.spare (heap_room q.heap))

pub record IsQueue {X : Type 0} (q : Inside X) : Type 0 where
  pub sound : IsSound q.heap
  pub tied : IsTied q.heap (entry_of q.pool)
  pub given : (s : ℕ) (e : Entry X) → entry_of q.pool s ≡ Some e → (0 < s) × (s ≤ q.pool.made)
  pub few : (length q.heap.nodes.items ≤ q.pool.made) × (q.pool.made ≤ MOST_SERIALS)
