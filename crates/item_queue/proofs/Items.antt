-- The items of a map of entries: what they are at a serial, and after a change.
use Rattle.std.proofs.Common.{◌≡◌, ℕ, ◌≢◌, true, false, cond, List, [], ◌∷◌, length, Option, Some, None, sym, ap, ◌∙◌, subst, refl, ⊎_elim, arith}
use Rattle.std.specs.Prelude.{ℤ, ◌&&◌, T}
use Rattle.std.proofs.lemmas.Bool.{cases_eq}
use Rattle.std.specs.Cmp.{nat_cmp_total}
use Rattle.std.specs.Ordering.{nat_cmp, eq_by_cmp, is_lt}
use Rattle.std.specs.FinMap as map
use Rattle.std.specs.FinMap.Entries.{below_all, is_sorted, find}
use Rattle.item_queue.specs.declared.node.Entry.{Entry}
use Rattle.item_queue.specs.Heap.{priced, priced_of}
use Rattle.item_queue.specs.IsQueue.{without_handles, items_of}
use Rattle.item_queue.proofs.Lookups.{insert_here, insert_apart, remove_here, remove_apart}

module _ {X : Type 0} where
  below_kept : (x : ℕ) (es : List (ℕ × Entry X)) → below_all nat_cmp x (without_handles es) ≡ below_all nat_cmp x es
  below_kept x [] = refl
  below_kept x (e ∷ es) = ap (λ b. is_lt (nat_cmp x e.0) && b) (below_kept x es)

  sorted_kept : (es : List (ℕ × Entry X)) → is_sorted nat_cmp (without_handles es) ≡ is_sorted nat_cmp es
  sorted_kept [] = refl
  sorted_kept (e ∷ es) = λ i. below_kept e.0 es i && sorted_kept es i

  find_kept : (q : ℕ) (es : List (ℕ × Entry X)) → find nat_cmp q (without_handles es) ≡ priced_of (find nat_cmp q es)
  find_kept q [] = refl
  find_kept q (e ∷ es) = elim (eq_by_cmp nat_cmp q e.0) as (λ b. cond b (Some (priced e.1)) (find nat_cmp q (without_handles es)) ≡ priced_of (cond b (Some e.1) (find nat_cmp q es))) [ true ↦ refl | false ↦ find_kept q es ]

  length_kept : (es : List (ℕ × Entry X)) → length (without_handles es) ≡ length es
  length_kept [] = refl
  length_kept (e ∷ es) = let l = length_kept es in omega (arith, l)

  items_sorted : (m : map.FinMap nat_cmp (Entry X)) → T (is_sorted nat_cmp (without_handles (map.entries m)))
  items_sorted m = subst T (sym (sorted_kept (map.entries m))) (map.entries_sorted m)

  pub get_items : (m : map.FinMap nat_cmp (Entry X)) (q : ℕ) → map.get (items_of m) q ≡ priced_of (map.get m q)
  get_items m q = map.get-from_sorted nat_cmp (without_handles (map.entries m)) q (items_sorted m) ∙ find_kept q (map.entries m) ∙ ap priced_of (sym (map.get-entries m q))

  pub len_items : (m : map.FinMap nat_cmp (Entry X)) → map.len (items_of m) ≡ map.len m
  len_items m = map.len-entries (items_of m) ∙ ap length (map.entries-from_sorted nat_cmp (without_handles (map.entries m)) (items_sorted m)) ∙ length_kept (map.entries m) ∙ sym (map.len-entries m)

  same_items : (m n : map.FinMap nat_cmp (ℤ × X)) → ((q : ℕ) → map.get m q ≡ map.get n q) → m ≡ n
  same_items m n is = map.same_map nat_cmp_total map.nat_cmp-IsAntisymmetric m n is

  pub items_insert : (m n : map.FinMap nat_cmp (Entry X)) (k : ℕ) (p : ℤ) (x : X) → priced_of (map.get n k) ≡ Some (p, x)
      → ((s : ℕ) → s ≢ k → priced_of (map.get n s) ≡ priced_of (map.get m s)) → items_of n ≡ map.insert (items_of m) k (p, x)
  items_insert m n k p x here others = same_items (items_of n) (map.insert (items_of m) k (p, x)) (λ s. ⊎_elim
      (λ e. get_items n s ∙ ap (λ j. priced_of (map.get n j)) e ∙ here ∙ sym (insert_here (items_of m) k (p, x) s e))
      (λ ne. get_items n s ∙ others s ne ∙ sym (get_items m s) ∙ sym (insert_apart (items_of m) k (p, x) s ne)) (cases_eq s k))

  pub items_remove : (m n : map.FinMap nat_cmp (Entry X)) (k : ℕ) → priced_of (map.get n k) ≡ None
      → ((s : ℕ) → s ≢ k → priced_of (map.get n s) ≡ priced_of (map.get m s)) → items_of n ≡ map.remove (items_of m) k
  items_remove m n k here others = same_items (items_of n) (map.remove (items_of m) k) (λ s. ⊎_elim
      (λ e. get_items n s ∙ ap (λ j. priced_of (map.get n j)) e ∙ here ∙ sym (remove_here (items_of m) k s e))
      (λ ne. get_items n s ∙ others s ne ∙ sym (get_items m s) ∙ sym (remove_apart (items_of m) k s ne)) (cases_eq s k))

  pub items_empty : (m : map.FinMap nat_cmp (Entry X)) → ((s : ℕ) → map.get m s ≡ None) → items_of m ≡ map.empty
  items_empty m none = same_items (items_of m) map.empty (λ s. get_items m s ∙ ap priced_of (none s) ∙ sym (map.get-empty nat_cmp s))

  -- where there is a priority there is an entry
  pub some_entry : (o : Option (Entry X)) (v : ℤ × X) → priced_of o ≡ Some v → (e : Entry X) × (o ≡ Some e)
  some_entry None v is = let twice : None ≡ Some v = is in cc
  some_entry (Some e) v is = (e, refl)
