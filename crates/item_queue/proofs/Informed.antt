-- What a change of an information leaves of a queue.
use Rattle.std.proofs.Common.{◌≡◌, ℕ, ◌<◌, ◌≤◌, ◌≢◌, Some, sym, ap, ◌∙◌, subst, refl, ⊎_elim, arith}
use Rattle.std.proofs.lemmas.Bool.{cases_eq}
use Rattle.std.specs.FinMap as map
use Rattle.item_pool.specs.Contents.{contents}
use Rattle.item_queue.specs.declared.node.Entry.{Entry}
use Rattle.item_queue.specs.declared.queue.Queue.TheInside.{Inside}
use Rattle.item_queue.specs.Contents.{ChangesInformation}
use Rattle.item_queue.specs.Heap.{entry, entry_of, priced_of, IsTied}
use Rattle.item_queue.specs.IsQueue.{seen, IsQueue}
use Rattle.item_queue.proofs.Items.{get_items, items_insert}
use Rattle.item_queue.proofs.Lookups.{insert_here, insert_apart}
use Rattle.item_queue.proofs.Ties.{handle_at, priority_at}

module _ {X : Type 0} where
  -- the queue p with the information x in the entry e of the serial s
  abbrev pub informed : Inside X → ℕ → Entry X → X → Inside X
  informed p s e x = record { heap = p.heap; pool = contents (map.insert p.pool.live s (entry e.handle e.priority x)) p.pool.made p.pool.spare }

  module _ (p : Inside X) (is : IsQueue p) (s : ℕ) (e : Entry X) (x : X) (had : entry_of p.pool s ≡ Some e) where
    here : entry_of (informed p s e x).pool s ≡ Some (entry e.handle e.priority x)
    here = insert_here p.pool.live s (entry e.handle e.priority x) s refl

    others : (t : ℕ) → t ≢ s → entry_of (informed p s e x).pool t ≡ entry_of p.pool t
    others t ne = insert_apart p.pool.live s (entry e.handle e.priority x) t ne

    tied : IsTied p.heap (entry_of (informed p s e x).pool)
    tied = record {
      found = λ a live. let f = is.tied.found a live in ⊎_elim
          (λ q. let had_a : entry_of p.pool a.item.serial ≡ Some e = ap (entry_of p.pool) q ∙ had in (
            x,
            ap (entry_of (informed p s e x).pool) q ∙ here ∙ ap (λ k. Some (entry k e.priority x)) (sym (handle_at p.heap (entry_of p.pool) is.tied a e live had_a))
                ∙ ap (λ z. Some (entry a.handle z x)) (sym (priority_at p.heap (entry_of p.pool) is.tied a e live had_a)),
          ))
          (λ ne. (f.0, others a.item.serial ne ∙ f.1)) (cases_eq a.item.serial s);
      placed = λ t f at. ⊎_elim
          (λ q. let g = is.tied.placed s e had in (g.0, g.1, g.2 ∙ sym q))
          (λ ne. is.tied.placed t f (sym (others t ne) ∙ at)) (cases_eq t s);
    }

    pub informed_queue : IsQueue (informed p s e x)
    informed_queue = record {
      sound = is.sound;
      tied = tied;
      given = λ t f at. ⊎_elim
          (λ same. let g = is.given s e had in (subst (λ j. 0 < j) (sym same) g.0, subst (λ j. j ≤ p.pool.made) (sym same) g.1))
          (λ ne. is.given t f (sym (others t ne) ∙ at)) (cases_eq t s);
      few = is.few;
    }

    pub informed_seen : ChangesInformation (seen p) (seen (informed p s e x)) s e.inf x
    informed_seen =
        let g = is.given s e had in let live = (informed p s e x).pool.live in (
          e.priority,
          record {
            held = (get_items p.pool.live s ∙ ap priced_of had, g.0, g.1);
            live = items_insert p.pool.live live s e.priority x (ap priced_of here) (λ t ne. ap priced_of (others t ne));
            made = refl;
            spare = omega arith;
          },
        )
