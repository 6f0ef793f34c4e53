-- What the calls of a queue leave of its invariant, and what they answer.
use Rattle.std.proofs.Common.{◌≡◌, ℕ, ◌+◌, ◌<◌, ◌≤◌, ◌≢◌, length, Option, Some, None, sym, ap, ◌∙◌, subst, refl, ⊎_elim, arith}
use Rattle.std.specs.Prelude.{ℤ}
use Rattle.std.proofs.lemmas.Bool.{cases_eq}
use Rattle.std.specs.FinMap as map
use Rattle.item_pool.specs.declared.pool.TheConstants.{MOST_SERIALS}
use Rattle.item_pool.specs.Contents.{Contents, contents, Inserts as PoolInserts, Removes as PoolRemoves}
use Rattle.item_queue.specs.declared.node.Node.{Node}
use Rattle.item_queue.specs.declared.node.Entry.{Entry}
use Rattle.item_queue.specs.declared.heap.Heap.{Heap}
use Rattle.item_queue.specs.Order.{AtMost}
use Rattle.item_queue.specs.Contents.{queued, IsLeastItem, IsLeast}
use Rattle.item_queue.specs.IsQueue.{items_of, IsQueue}
use Rattle.item_queue.specs.declared.queue.Queue.TheInside.{Inside}
use Rattle.item_queue.specs.Heap.{node_at, entry, entry_of, priced, priced_of, IsSound, IsTied, IsRated, HasOneMore, HasOneLess, HasOneLower}
use Rattle.item_queue.proofs.Heaps.{live_in, in_live, sound_of}
use Rattle.item_queue.proofs.Items.{get_items, some_entry, items_insert, items_remove}
use Rattle.item_queue.proofs.Lookups.{insert_here, insert_apart, remove_here, remove_apart}
use Rattle.item_queue.proofs.Sifts.{first_least}
use Rattle.item_queue.proofs.Ties.{more_tied, less_tied, lower_tied}

module _ {X : Type 0} where
  abbrev priority_or : ℤ → Option (ℤ × X) → ℤ
  priority_or z None = z
  priority_or z (Some v) = v.0

  abbrev pair_or : ℤ × X → Option (ℤ × X) → ℤ × X
  pair_or v None = v
  pair_or v (Some w) = w

  abbrev entry_or : Entry X → Option (Entry X) → Entry X
  entry_or e None = e
  entry_or e (Some f) = f

  abbrev pub AreGiven : Contents (Entry X) → Type 0
  AreGiven p = (s : ℕ) (e : Entry X) → entry_of p s ≡ Some e → (0 < s) × (s ≤ p.made)

  pub reserve_queue : (p q : Inside X) → IsQueue p → q.heap.nodes.items ≡ p.heap.nodes.items → q.heap.places.items ≡ p.heap.places.items → q.heap.len ≡ p.heap.len
      → q.pool.live ≡ p.pool.live → q.pool.made ≡ p.pool.made → IsQueue q
  reserve_queue p q is nodes places len live made =
      let entries : (s : ℕ) → entry_of q.pool s ≡ entry_of p.pool s = λ s. ap (λ l. map.get l s) live in
      let h = p.heap in let g = q.heap in record {
        sound = sound_of g h.nodes.items h.len nodes len h.places.items places is.sound.order is.sound.placed is.sound.within;
        tied = record {
          found = λ a i. let f = is.tied.found a (in_live g h.nodes.items h.len nodes len a i) in (f.0, entries a.item.serial ∙ f.1);
          placed = λ s e at. let f = is.tied.placed s e (sym (entries s) ∙ at) in (f.0, live_in g h.nodes.items h.len nodes len f.0 f.1, f.2);
        };
        given = λ s e at. let i = is.given s e (sym (entries s) ∙ at) in (i.0, subst (λ m. s ≤ m) (sym made) i.1);
        few = (let size = ap length nodes in let few : length h.nodes.items ≤ p.pool.made = is.few.0 in omega (arith, size, few, made), subst (λ m. m ≤ MOST_SERIALS) (sym made) is.few.1);
      }

  -- a node and its entry come in
  module _ (h g : Heap) (a : Node) (p q : Contents (Entry X)) (x : X) (tied : IsTied h (entry_of p)) (more : HasOneMore h g a) (ins : PoolInserts p q a.item (entry a.handle a.priority x)) where
    new_here : (s : ℕ) → s ≡ p.made + 1 → entry_of q s ≡ Some (entry a.handle a.priority x)
    new_here s is = ap (λ l. map.get l s) ins.live ∙ insert_here p.live (p.made + 1) (entry a.handle a.priority x) s is

    new_others : (s : ℕ) → s ≢ p.made + 1 → entry_of q s ≡ entry_of p s
    new_others s ne = ap (λ l. map.get l s) ins.live ∙ insert_apart p.live (p.made + 1) (entry a.handle a.priority x) s ne

    pub in_tied : IsTied g (entry_of q)
    in_tied = more_tied h g a (entry_of p) (entry_of q) tied (λ s ne. new_others s (λ e. ne (e ∙ sym ins.serial))) more
        (ap (entry_of p) ins.serial ∙ ins.fresh) x (new_here a.item.serial ins.serial)

    pub in_given : AreGiven p → AreGiven q
    in_given given s e at = ⊎_elim
        (λ i. let m : q.made ≡ p.made + 1 = ins.made in (omega (arith, i), omega (arith, i, m)))
        (λ ne. let f = given s e (sym (new_others s ne) ∙ at) in let l : s ≤ p.made = f.1 in let m : q.made ≡ p.made + 1 = ins.made in (f.0, omega (arith, l, m))) (cases_eq s (p.made + 1))

    pub in_items : items_of q.live ≡ map.insert (items_of p.live) (p.made + 1) (a.priority, x)
    in_items = items_insert p.live q.live (p.made + 1) a.priority x (ap priced_of (new_here (p.made + 1) refl)) (λ s ne. ap priced_of (new_others s ne))

  -- a node and its entry go
  module _ (h g : Heap) (a : Node) (p q : Contents (Entry X)) (e : Entry X) (tied : IsTied h (entry_of p)) (less : HasOneLess h g a) (out : PoolRemoves p q a.item.serial e) where
    gone : entry_of q a.item.serial ≡ None
    gone = ap (λ l. map.get l a.item.serial) out.live ∙ remove_here p.live a.item.serial a.item.serial refl

    old_others : (s : ℕ) → s ≢ a.item.serial → entry_of q s ≡ entry_of p s
    old_others s ne = ap (λ l. map.get l s) out.live ∙ remove_apart p.live a.item.serial s ne

    pub out_tied : IsTied g (entry_of q)
    out_tied = less_tied h g a (entry_of p) (entry_of q) tied old_others less gone

    pub out_given : AreGiven p → AreGiven q
    out_given given s f at =
        let ne : s ≢ a.item.serial = λ i. let twice : None ≡ Some f = sym gone ∙ ap (entry_of q) (sym i) ∙ at in cc in
        let i = given s f (sym (old_others s ne) ∙ at) in (i.0, subst (λ m. s ≤ m) (sym out.made) i.1)

    pub out_items : items_of q.live ≡ map.remove (items_of p.live) a.item.serial
    out_items = items_remove p.live q.live a.item.serial (ap priced_of gone) (λ s ne. ap priced_of (old_others s ne))

  -- the first node is the least
  pub least_first : (h : Heap) (p : Contents (Entry X)) (spare : ℕ) → IsSound h → IsTied h (entry_of p) → AreGiven p → 0 < h.len
      → IsLeastItem (queued (items_of p.live) p.made spare) (node_at h.nodes.items 0).item.serial
  least_first h p spare sound tied given some =
      let at = node_at h.nodes.items in let a = at 0 in let f = tied.found a (0, some, refl) in (
        a.priority,
        f.0,
        record {
          held = (let i = given a.item.serial (entry a.handle a.priority f.0) f.1 in (get_items p.live a.item.serial ∙ ap priced_of f.1, i.0, i.1));
          least = λ t r y is.
              let e = some_entry (entry_of p t) (r, y) (sym (get_items p.live t) ∙ is) in let b = tied.placed t e.0 e.1 in let g = tied.found b.0 b.1 in
              let pair : Some (r, y) ≡ Some (b.0.priority, g.0) = sym is ∙ get_items p.live t ∙ ap (λ j. priced_of (entry_of p j)) (sym b.2) ∙ ap priced_of g.1 in
              let pr : b.0.priority ≡ r = ap (λ (o : Option (ℤ × X)). priority_or r o) (sym pair) in
              subst (λ z. AtMost a.priority a.item.serial z t) pr (subst (λ z. AtMost a.priority a.item.serial b.0.priority z) b.2
              (subst (λ (m : Node). AtMost a.priority a.item.serial m.priority m.item.serial) b.1.2 (first_least at h.len sound.order h.len b.1.0 b.1.1 b.1.1)));
        },
      )

  -- and it is what a removal of the first node answers
  pub least_taken : (h : Heap) (p : Contents (Entry X)) (e : Entry X) (spare : ℕ) → IsSound h → IsTied h (entry_of p) → AreGiven p → 0 < h.len
      → entry_of p (node_at h.nodes.items 0).item.serial ≡ Some e → IsLeast (queued (items_of p.live) p.made spare) (node_at h.nodes.items 0).item.serial e.priority e.inf
  least_taken h p e spare sound tied given some is =
      let l = least_first h p spare sound tied given some in let s = (node_at h.nodes.items 0).item.serial in
      let pair : Some (l.0, l.1) ≡ Some (priced e) = sym l.2.held.0 ∙ get_items p.live s ∙ ap priced_of is in
      subst (λ (o : Option (ℤ × X)). IsLeast (queued (items_of p.live) p.made spare) s (pair_or (priced e) o).0 (pair_or (priced e) o).1) pair l.2

  pub rate_entry : (p : Contents (Entry X)) (s : ℕ) (r : ℤ) (now : Entry X) → entry_of p s ≡ Some now
      → IsRated p (contents (map.insert p.live s (entry now.handle r now.inf)) p.made p.spare) s r
  rate_entry p s r now is = record {
    here = λ e at. insert_here p.live s (entry now.handle r now.inf) s refl
        ∙ ap (λ (o : Option (Entry X)). Some (entry (entry_or now o).handle r (entry_or now o).inf)) (sym is ∙ at);
    others = λ t ne. insert_apart p.live s (entry now.handle r now.inf) t ne;
    made = refl;
    spare = refl;
  }

  -- the entry of a node gets the priority r, and so does the node
  module _ (h g : Heap) (a : Node) (p q : Contents (Entry X)) (r : ℤ) (e : Entry X) (tied : IsTied h (entry_of p)) (low : HasOneLower h g a r) (had : entry_of p a.item.serial ≡ Some e) (rated : IsRated p q a.item.serial r) where
    pub low_tied : IsTied g (entry_of q)
    low_tied = let f = tied.found a low.held in
        lower_tied h g a (entry_of p) (entry_of q) tied rated.others r low f.0 (rated.here (entry a.handle a.priority f.0) f.1)

    pub low_given : AreGiven p → AreGiven q
    low_given given t f at = ⊎_elim
        (λ same. let i = given a.item.serial e had in (subst (λ j. 0 < j) (sym same) i.0, subst (λ m. t ≤ m) (sym rated.made) (subst (λ j. j ≤ p.made) (sym same) i.1)))
        (λ ne. let i = given t f (sym (rated.others t ne) ∙ at) in (i.0, subst (λ m. t ≤ m) (sym rated.made) i.1)) (cases_eq t a.item.serial)

    pub low_items : items_of q.live ≡ map.insert (items_of p.live) a.item.serial (r, e.inf)
    low_items = items_insert p.live q.live a.item.serial r e.inf (ap priced_of (rated.here e had)) (λ t ne. ap priced_of (rated.others t ne))
