-- That each step leaves a pool as it has to be, from its fields before, p, and after, q.
use Rattle.std.proofs.Common.{◌≡◌, ℕ, zero, suc, List, [], ◌∷◌, ◌++◌, ◌+◌, ◌-◌, ◌<◌, ◌≤◌, ◌≢◌, ◌^◌, Some, None, length, set, refl, sym, ap, ◌∙◌, subst, arith, length-set, length-append, ⊎_elim}
use Rattle.std.proofs.lemmas.Bool.{cases_lt}
use Rattle.std.specs.Ordering.{nat_cmp}
use Rattle.item_pool.proofs.Seen.{live_append}
use Rattle.std.specs.FinMap as map
use Rattle.item_pool.specs.declared.pool.TheConstants.{MOST_SERIALS}
use Rattle.item_pool.specs.declared.block.Cell.{Cell}
use Rattle.item_pool.specs.declared.pool.Pool.TheInside.{Inside}
use Rattle.item_pool.specs.CellsKept.{cell_at, live_of, IsFree, IsTable, IsChain, IsGrown}
use Rattle.item_pool.specs.declared.table.Table.{Table}
use Rattle.item_pool.specs.Lookups.{Sets}
use Rattle.item_pool.specs.Table.{slot_of}
use Rattle.item_pool.specs.Chained.{blank, chained}
use Rattle.item_pool.proofs.Blocks.{length-chained, chained_value, chained_number, chained_link, chained_last}
use Rattle.item_pool.proofs.Joins.{at_left, at_right}
use Rattle.item_pool.specs.IsPool.{IsPool}
use Rattle.item_pool.proofs.Chains.{chain_pop, chain_push, chain_write, chain_grow}
use Rattle.item_pool.specs.Contents.{contents, IsWithin}
use Rattle.item_pool.proofs.Seen.{seen_some, seen_new, seen_given, live_insert, live_remove, len_insert, len_remove, len_same, at_set, at_other}
use Rattle.item_pool.proofs.Tables.{table_put, table_take, table_write, table_grow}

module _ {X : Type 0} where
  -- a value comes in
  module _ (p q : Inside X) (is : IsPool p) (y : X) (pos : 0 < p.free) (room : p.made < MOST_SERIALS)
      (cells : q.cells ≡ set p.cells p.first (record { number = p.made + 1; link = (cell_at p.cells p.first).link; value = Some y }))
      (first : q.first ≡ (cell_at p.cells p.first).link) (free : q.free ≡ p.free - 1) (live : q.live ≡ p.live + 1) (made : q.made ≡ p.made + 1)
      (next : q.table.next ≡ p.table.next + 1) (entry : Sets (slot_of p.table) (slot_of q.table) p.table.next (Some p.first)) where
    here : slot_of q.table (p.made + 1) ≡ Some p.first
    here = ap (slot_of q.table) (sym is.next) ∙ entry.here

    others : (s : ℕ) → s ≢ p.made + 1 → slot_of q.table s ≡ slot_of p.table s
    others s ne = entry.others s (λ e. ne (e ∙ is.next))

    abbrev new : Cell X
    new = record { number = p.made + 1; link = (cell_at p.cells p.first).link; value = Some y }

    top : IsFree (cell_at p.cells) (length p.cells) p.first p.free
    top = is.chain.top pos

    at : cell_at q.cells p.first ≡ new
    at = ap (λ l. cell_at l p.first) cells ∙ at_set p.cells p.first new top.0

    same : (i : ℕ) → i ≢ p.first → cell_at q.cells i ≡ cell_at p.cells i
    same i ne = ap (λ l. cell_at l i) cells ∙ at_other p.cells p.first new i ne

    long : length q.cells ≡ length p.cells
    long = ap length cells ∙ length-set p.cells p.first new

    table : IsTable (cell_at q.cells) (slot_of q.table) (p.made + 1)
    table = table_put (cell_at p.cells) (cell_at q.cells) p.first same (slot_of p.table) (slot_of q.table) p.made is.table (p.made + 1) y refl top.2 (ap (λ c. c.number) at, ap (λ c. c.value) at) here others

    chain : IsChain (cell_at q.cells) (length p.cells) (cell_at p.cells p.first).link (p.free - 1)
    chain = chain_pop (cell_at p.cells) (cell_at q.cells) (length p.cells) p.first same y (ap (λ c. c.value) at) p.free pos is.chain

    off : (s i : ℕ) → s ≢ p.made + 1 → slot_of p.table s ≡ Some i → i ≢ p.first
    off s i ne e is_first = let f = is.table.found s i e in let twice : None ≡ Some f.0 = sym top.2 ∙ ap (λ j. (cell_at p.cells j).value) (sym is_first) ∙ f.1.1 in cc

    pub insert_live : live_of q.cells ≡ map.insert (live_of p.cells) (p.made + 1) y
    insert_live = live_insert p.cells q.cells p.first same (slot_of p.table) (slot_of q.table) p.made (p.made + 1) is.table table (p.made + 1) others off y here (ap (λ c. c.value) at)

    pub insert_pool : IsPool q
    insert_pool = record {
      table = subst (λ m. IsTable (cell_at q.cells) (slot_of q.table) m) (sym made) table;
      next = omega (arith, next, is.next, made);
      chain = subst (λ n. IsChain (cell_at q.cells) n q.first q.free) (sym long) (subst (λ f. IsChain (cell_at q.cells) (length p.cells) f q.free) (sym first) (subst (λ f. IsChain (cell_at q.cells) (length p.cells) (cell_at p.cells p.first).link f) (sym free) chain));
      counted = live ∙ ap (λ n. n + 1) is.counted ∙ sym (ap map.len insert_live ∙ len_insert (live_of p.cells) (p.made + 1) y (seen_new p.cells (slot_of p.table) p.made is.table (p.made + 1) refl));
      total = let t : p.free + p.live ≡ length p.cells = is.total in omega (arith, long);
      few = (let low : p.live ≤ p.made = is.few.0 in omega arith, omega arith);
      short = let s : length p.cells < 2 ^ 27 = is.short in subst (λ n. n < 2 ^ 27) (sym long) s;
    }

  -- a value goes out
  module _ (p q : Inside X) (is : IsPool p) (s slot : ℕ) (x : X) (at_slot : slot_of p.table s ≡ Some slot) (value : (cell_at p.cells slot).value ≡ Some x) (within : slot < length p.cells)
      (cells : q.cells ≡ set p.cells slot (record { number = p.free + 1; link = p.first; value = None }))
      (first : q.first ≡ slot) (free : q.free ≡ p.free + 1) (live : q.live ≡ p.live - 1) (made : q.made ≡ p.made)
      (next : q.table.next ≡ p.table.next) (here : slot_of q.table s ≡ None) (others : (r : ℕ) → r ≢ s → slot_of q.table r ≡ slot_of p.table r) where
    abbrev left : Cell X
    left = record { number = p.free + 1; link = p.first; value = None }

    gone_at : cell_at q.cells slot ≡ left
    gone_at = ap (λ l. cell_at l slot) cells ∙ at_set p.cells slot left within

    alike : (i : ℕ) → i ≢ slot → cell_at q.cells i ≡ cell_at p.cells i
    alike i ne = ap (λ l. cell_at l i) cells ∙ at_other p.cells slot left i ne

    length_is : length q.cells ≡ length p.cells
    length_is = ap length cells ∙ length-set p.cells slot left

    number : (cell_at p.cells slot).number ≡ s
    number = let f = is.table.found s slot at_slot in f.1.0

    table_left : IsTable (cell_at q.cells) (slot_of q.table) p.made
    table_left = table_take (cell_at p.cells) (cell_at q.cells) slot alike (slot_of p.table) (slot_of q.table) p.made is.table s x (number, value) (ap (λ c. c.value) gone_at) here others

    chain_left : IsChain (cell_at q.cells) (length p.cells) slot (p.free + 1)
    chain_left = chain_push (cell_at p.cells) (cell_at q.cells) (length p.cells) slot alike x value within p.first p.free (ap (λ c. c.number) gone_at) (ap (λ c. c.link) gone_at) (ap (λ c. c.value) gone_at) is.chain

    apart : (r i : ℕ) → r ≢ s → slot_of p.table r ≡ Some i → i ≢ slot
    apart r i ne e is_slot = let f = is.table.found r i e in ne (sym f.1.0 ∙ ap (λ j. (cell_at p.cells j).number) is_slot ∙ number)

    pub remove_live : live_of q.cells ≡ map.remove (live_of p.cells) s
    remove_live = live_remove p.cells q.cells slot alike (slot_of p.table) (slot_of q.table) p.made p.made is.table table_left s others apart here

    pub held : map.get (live_of p.cells) s ≡ Some x
    held = seen_some p.cells (slot_of p.table) p.made is.table s slot at_slot ∙ value

    fewer : map.len (live_of q.cells) + 1 ≡ map.len (live_of p.cells)
    fewer = ap (λ m. map.len m + 1) remove_live ∙ len_remove (live_of p.cells) s x held

    pub remove_pool : IsPool q
    remove_pool = record {
      table = subst (λ m. IsTable (cell_at q.cells) (slot_of q.table) m) (sym made) table_left;
      next = omega (arith, next, is.next, made);
      chain = subst (λ n. IsChain (cell_at q.cells) n q.first q.free) (sym length_is) (subst (λ f. IsChain (cell_at q.cells) (length p.cells) f q.free) (sym first) (subst (λ f. IsChain (cell_at q.cells) (length p.cells) slot f) (sym free) chain_left));
      counted = let c : p.live ≡ map.len (live_of p.cells) = is.counted in omega (arith, fewer);
      total = let c : p.live ≡ map.len (live_of p.cells) = is.counted in let t : p.free + p.live ≡ length p.cells = is.total in omega (arith, fewer, length_is);
      few = (let low : p.live ≤ p.made = is.few.0 in omega arith, let most : p.made ≤ MOST_SERIALS = is.few.1 in omega arith);
      short = let l : length p.cells < 2 ^ 27 = is.short in subst (λ n. n < 2 ^ 27) (sym length_is) l;
    }

  -- a value is written to
  module _ (p q : Inside X) (is : IsPool p) (s slot : ℕ) (x y : X) (at_slot : slot_of p.table s ≡ Some slot) (value : (cell_at p.cells slot).value ≡ Some x) (within : slot < length p.cells)
      (cells : q.cells ≡ set p.cells slot (record { number = (cell_at p.cells slot).number; link = (cell_at p.cells slot).link; value = Some y }))
      (table_is : q.table ≡ p.table) (first : q.first ≡ p.first) (free : q.free ≡ p.free) (live : q.live ≡ p.live) (made : q.made ≡ p.made) where
    abbrev written : Cell X
    written = record { number = (cell_at p.cells slot).number; link = (cell_at p.cells slot).link; value = Some y }

    there : cell_at q.cells slot ≡ written
    there = ap (λ l. cell_at l slot) cells ∙ at_set p.cells slot written within

    rest : (i : ℕ) → i ≢ slot → cell_at q.cells i ≡ cell_at p.cells i
    rest i ne = ap (λ l. cell_at l i) cells ∙ at_other p.cells slot written i ne

    as_long : length q.cells ≡ length p.cells
    as_long = ap length cells ∙ length-set p.cells slot written

    serial : (cell_at p.cells slot).number ≡ s
    serial = let f = is.table.found s slot at_slot in f.1.0

    table_kept : IsTable (cell_at q.cells) (slot_of p.table) p.made
    table_kept = table_write (cell_at p.cells) (cell_at q.cells) slot rest (slot_of p.table) (slot_of p.table) p.made is.table s x y (serial, value) (ap (λ c. c.number) there ∙ serial, ap (λ c. c.value) there)

    chain_kept : IsChain (cell_at q.cells) (length p.cells) p.first p.free
    chain_kept = chain_write (cell_at p.cells) (cell_at q.cells) (length p.cells) slot rest x y value (ap (λ c. c.value) there) p.first p.free is.chain

    off_slot : (r i : ℕ) → r ≢ s → slot_of p.table r ≡ Some i → i ≢ slot
    off_slot r i ne e is_slot = let f = is.table.found r i e in ne (sym f.1.0 ∙ ap (λ j. (cell_at p.cells j).number) is_slot ∙ serial)

    pub write_live : live_of q.cells ≡ map.insert (live_of p.cells) s y
    write_live = live_insert p.cells q.cells slot rest (slot_of p.table) (slot_of p.table) p.made p.made is.table table_kept s (λ _ _. refl) off_slot y at_slot (ap (λ c. c.value) there)

    as_many : map.len (live_of q.cells) ≡ map.len (live_of p.cells)
    as_many = ap map.len write_live ∙ len_same (live_of p.cells) s x y (seen_some p.cells (slot_of p.table) p.made is.table s slot at_slot ∙ value)

    pub write_pool : IsPool q
    write_pool = record {
      table = subst (λ t. IsTable (cell_at q.cells) (slot_of t) q.made) (sym table_is) (subst (λ m. IsTable (cell_at q.cells) (slot_of p.table) m) (sym made) table_kept);
      next = ap (λ (t : Table). t.next) table_is ∙ is.next ∙ ap (λ m. m + 1) (sym made);
      chain = subst (λ n. IsChain (cell_at q.cells) n q.first q.free) (sym as_long) (subst (λ f. IsChain (cell_at q.cells) (length p.cells) f q.free) (sym first) (subst (λ f. IsChain (cell_at q.cells) (length p.cells) p.first f) (sym free) chain_kept));
      counted = live ∙ is.counted ∙ sym as_many;
      total = let t : p.free + p.live ≡ length p.cells = is.total in omega (arith, as_long);
      few = (let low : p.live ≤ p.made = is.few.0 in omega arith, let most : p.made ≤ MOST_SERIALS = is.few.1 in omega arith);
      short = let l : length p.cells < 2 ^ 27 = is.short in subst (λ n. n < 2 ^ 27) (sym as_long) l;
    }

  pub live_within : (cells : List (Cell X)) (i : ℕ) (x : X) → (cell_at cells i).value ≡ Some x → i < length cells
  live_within [] i x e = let twice : None ≡ Some x = e in cc
  live_within (c ∷ cells) zero x e = omega arith
  live_within (c ∷ cells) (suc i) x e = omega (arith, live_within cells i x e)

  past_end : (cells : List (Cell X)) (i : ℕ) → length cells ≤ i → (cell_at cells i).value ≡ None
  past_end [] i h = refl
  past_end (c ∷ cells) zero h = absurd (omega arith)
  past_end (c ∷ cells) (suc i) h = past_end cells i (omega arith)

  -- each live serial was made
  pub pool_within : (p : Inside X) → IsPool p → (spare : ℕ) → IsWithin (contents (live_of p.cells) p.made spare)
  pool_within p is spare = (λ s x e. seen_given p.cells (slot_of p.table) p.made is.table s x e, is.few.1)

  -- where a serial is live, there is a live value
  pub some_live : (p : Inside X) → IsPool p → (s i : ℕ) → slot_of p.table s ≡ Some i → 1 ≤ p.live
  some_live p is s i e = let f = is.table.found s i e in
      omega (arith, is.counted, len_remove (live_of p.cells) s f.0 (seen_some p.cells (slot_of p.table) p.made is.table s i e ∙ f.1.1))

  -- there are no cells
  module _ (q : Inside X) (cells : q.cells ≡ []) (slots : (s : ℕ) → slot_of q.table s ≡ None) (free : q.free ≡ 0) (live : q.live ≡ 0) (made : q.made ≤ MOST_SERIALS) (next : q.table.next ≡ q.made + 1) where
    none : (i : ℕ) → (cell_at q.cells i).value ≡ None
    none i = ap (λ l. (cell_at l i).value) cells

    empty_long : length q.cells ≡ 0
    empty_long = ap length cells

    pub empty_pool : IsPool q
    empty_pool = record {
      table = record {
        found = λ s i e. let twice : None ≡ Some i = sym (slots s) ∙ e in cc;
        listed = λ i s x l. let twice : None ≡ Some x = sym (none i) ∙ l.1 in cc;
        given = λ s i e. let twice : None ≡ Some i = sym (slots s) ∙ e in cc;
      };
      next = next;
      chain = record {
        counted = λ i k f. absurd (omega (arith, f.0, empty_long));
        apart = λ i j k f h. absurd (omega (arith, f.0, empty_long));
        linked = λ i k f h. absurd (omega (arith, f.0, empty_long));
        top = λ h. absurd (omega arith);
      };
      counted = live ∙ sym (ap (λ l. map.len (live_of l)) cells ∙ map.len-empty nat_cmp X);
      total = omega (arith, empty_long);
      few = (omega (arith, live), made);
      short = let z = empty_long in omega arith;
    }

  -- a block of free cells more
  module _ (cells more : List (Cell X)) (n w first free : ℕ) (some : 0 < w) (more_is : more ≡ cells ++ chained w n free first) (n_is : n ≡ length cells) where
    first_part : (i : ℕ) → i < n → cell_at more i ≡ cell_at cells i
    first_part i lt = ap (λ l. cell_at l i) more_is ∙ at_left cells (chained w n free first) i blank (omega arith)

    last_part : (k : ℕ) → cell_at more (n + k) ≡ cell_at (chained w n free first) k
    last_part k = ap (λ l. cell_at l (n + k)) more_is ∙ at_right cells (chained w n free first) (n + k) k blank (omega arith)

    behind : (i : ℕ) → n ≤ i → (cell_at more i).value ≡ None
    behind i ge = let back : i ≡ n + (i - n) = omega arith in ap (λ j. (cell_at more j).value) back ∙ ap (λ c. c.value) (last_part (i - n)) ∙ chained_value X w n free first (i - n)

    more_long : length more ≡ n + w
    more_long = omega (arith, ap length more_is, length-append cells (chained w n free first), length-chained X w n free first)

    pub grown_chain : IsChain (cell_at cells) (length cells) first free → IsChain (cell_at more) (length more) n (free + w)
    grown_chain chain = chain_grow (cell_at cells) (cell_at more) n w (length more) first free some more_long first_part
        (λ k lt. ap (λ c. c.number) (last_part k) ∙ chained_number X w n free first k lt) behind
        (λ k lt. ap (λ c. c.link) (last_part k) ∙ chained_link X w n free first k lt)
        (ap (λ c. c.link) (last_part (w - 1)) ∙ chained_last X w n free first (w - 1) (omega arith))
        (subst (λ m. IsChain (cell_at cells) m first free) (sym n_is) chain)

    pub grown_long : length more ≡ length cells + w
    grown_long = omega (arith, more_long)

    pub is_grown : IsGrown cells more
    is_grown = record {
      old = λ i lt. first_part i (omega arith);
      new = λ i ge. behind i (omega arith);
      live = ap (λ l. live_of l) more_is ∙ ap (λ es. map.from_entries es) (live_append cells (chained w n free first) (λ k. chained_value X w n free first k));
      longer = omega (arith, more_long);
    }

  pub grown_more : (a b c : List (Cell X)) → IsGrown a b → IsGrown b c → IsGrown a c
  grown_more a b c f h = record {
    old = λ i lt. h.old i (omega (arith, f.longer)) ∙ f.old i lt;
    new = λ i ge. ⊎_elim (λ lt. ap (λ k. k.value) (h.old i lt) ∙ f.new i ge) (λ past. h.new i past) (cases_lt i (length b));
    live = h.live ∙ f.live;
    longer = omega (arith, f.longer, h.longer);
  }

  -- there is more room
  module _ (p q : Inside X) (is : IsPool p) (grown : IsGrown p.cells q.cells) (chain : IsChain (cell_at q.cells) (length q.cells) q.first q.free) (total : q.free + p.live ≡ length q.cells)
      (short : length q.cells < 2 ^ 27) (slots : (s : ℕ) → slot_of q.table s ≡ slot_of p.table s) (live : q.live ≡ p.live) (made : q.made ≡ p.made) (next : q.table.next ≡ p.table.next) where
    table_old : IsTable (cell_at q.cells) (slot_of p.table) p.made
    table_old = table_grow (cell_at p.cells) (cell_at q.cells) (length p.cells) grown.old (past_end p.cells) grown.new (slot_of p.table) p.made is.table

    table_new : IsTable (cell_at q.cells) (slot_of q.table) p.made
    table_new = record {
      found = λ s i e. table_old.found s i (sym (slots s) ∙ e);
      listed = λ i s x l. slots s ∙ table_old.listed i s x l;
      given = λ s i e. table_old.given s i (sym (slots s) ∙ e);
    }

    pub grow_pool : IsPool q
    grow_pool = record {
      table = subst (λ m. IsTable (cell_at q.cells) (slot_of q.table) m) (sym made) table_new;
      next = omega (arith, next, is.next, made);
      chain = chain;
      counted = live ∙ is.counted ∙ sym (ap map.len grown.live);
      total = omega arith;
      few = (let low : p.live ≤ p.made = is.few.0 in omega arith, let most : p.made ≤ MOST_SERIALS = is.few.1 in omega arith);
      short = short;
    }
