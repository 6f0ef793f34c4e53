-- What each step does to the chain of free cells. The cells are given by what stands at each slot, before and after.
use Rattle.std.proofs.Common.{◌≡◌, ℕ, ◌+◌, ◌-◌, ◌<◌, ◌≤◌, ◌≢◌, Some, None, sym, ap, ◌∙◌, subst, arith}
use Rattle.std.proofs.lemmas.Bool.{cases_eq, cases_lt}
use Rattle.std.proofs.Common.{⊎_elim}
use Rattle.item_pool.specs.declared.block.Cell.{Cell}
use Rattle.item_pool.specs.CellsKept.{IsFree, IsChain}

module _ {X : Type 0} (A B : ℕ → Cell X) (n p : ℕ) (same : (i : ℕ) → i ≢ p → B i ≡ A i) where
  -- a free cell that isn't at p is free after as before
  kept : (i k : ℕ) → i ≢ p → IsFree A n i k → IsFree B n i k
  kept i k ne free = let e = same i ne in (free.0, ap (λ c. c.number) e ∙ free.1, ap (λ c. c.value) e ∙ free.2)

  was : (i k : ℕ) → i ≢ p → IsFree B n i k → IsFree A n i k
  was i k ne free = let e = sym (same i ne) in (free.0, ap (λ c. c.number) e ∙ free.1, ap (λ c. c.value) e ∙ free.2)

  not_live : (i k : ℕ) (x : X) → (B p).value ≡ Some x → IsFree B n i k → i ≢ p
  not_live i k x live free e = let twice : None ≡ Some x = sym free.2 ∙ ap (λ j. (B j).value) e ∙ live in cc

  -- a live cell's value may change
  module _ (x y : X) (before : (A p).value ≡ Some x) (after : (B p).value ≡ Some y) (first free : ℕ) (chain : IsChain A n first free) where
    a_free : (i k : ℕ) → IsFree B n i k → IsFree A n i k
    a_free i k is = was i k (not_live i k y after is) is

    b_free : (i k : ℕ) → IsFree A n i k → IsFree B n i k
    b_free i k is = kept i k (λ e. let twice : None ≡ Some x = sym is.2 ∙ ap (λ j. (A j).value) e ∙ before in cc) is

    pub chain_write : IsChain B n first free
    chain_write = record {
      counted = λ i k is. chain.counted i k (a_free i k is);
      apart = λ i j k is js. chain.apart i j k (a_free i k is) (a_free j k js);
      linked = λ i k is pos. let ne = not_live i (k + 1) y after is in
          subst (λ l. IsFree B n l k) (ap (λ c. c.link) (sym (same i ne))) (b_free (A i).link k (chain.linked i k (a_free i (k + 1) is) pos));
      top = λ pos. b_free first free (chain.top pos);
    }

  -- the first free cell becomes live
  module _ (y : X) (after : (B p).value ≡ Some y) (free : ℕ) (pos : 0 < free) (chain : IsChain A n p free) where
    a_was : (i k : ℕ) → IsFree B n i k → IsFree A n i k
    a_was i k is = was i k (not_live i k y after is) is

    below : (i k : ℕ) → IsFree B n i k → k < free
    below i k is =
        let ne = not_live i k y after is in let a = a_was i k is in
        ⊎_elim (λ lt. lt) (λ ge. let at_top : free ≡ k = omega (arith, (chain.counted i k a).1) in absurd (ne (chain.apart i p k a (subst (λ f. IsFree A n p f) at_top (chain.top pos))))) (cases_lt k free)

    -- what isn't at the top isn't at p
    off : (i k : ℕ) → k < free → IsFree A n i k → i ≢ p
    off i k lt is e = let high : (A p).number ≡ free = (chain.top pos).1 in let low : (A p).number ≡ k = ap (λ j. (A j).number) (sym e) ∙ is.1 in absurd (omega arith)

    pub chain_pop : IsChain B n (A p).link (free - 1)
    chain_pop = record {
      counted = λ i k is. ((chain.counted i k (a_was i k is)).0, let lt : k < free = below i k is in omega arith);
      apart = λ i j k is js. chain.apart i j k (a_was i k is) (a_was j k js);
      linked = λ i k is more.
          let ne = not_live i (k + 1) y after is in let lt : k + 1 < free = below i (k + 1) is in
          let next : IsFree A n (A i).link k = chain.linked i k (a_was i (k + 1) is) more in
          subst (λ l. IsFree B n l k) (ap (λ c. c.link) (sym (same i ne))) (kept (A i).link k (off (A i).link k (omega arith) next) next);
      top = λ more.
          let one : free ≡ (free - 1) + 1 = omega arith in
          let next : IsFree A n (A p).link (free - 1) = chain.linked p (free - 1) (subst (λ f. IsFree A n p f) one (chain.top pos)) more in
          kept (A p).link (free - 1) (off (A p).link (free - 1) (omega arith) next) next;
    }

  -- a live cell becomes the first free one
  module _ (x : X) (before : (A p).value ≡ Some x) (within : p < n) (first free : ℕ) (number : (B p).number ≡ free + 1) (link : (B p).link ≡ first) (after : (B p).value ≡ None) (chain : IsChain A n first free) where
    alive : (i k : ℕ) → IsFree A n i k → i ≢ p
    alive i k is e = let twice : None ≡ Some x = sym is.2 ∙ ap (λ j. (A j).value) e ∙ before in cc

    on : (i k : ℕ) → IsFree A n i k → IsFree B n i k
    on i k is = kept i k (alive i k is) is

    at_p : (i k : ℕ) → i ≡ p → IsFree B n i k → k ≡ free + 1
    at_p i k e is = sym is.1 ∙ ap (λ j. (B j).number) e ∙ number

    count : (i k : ℕ) → IsFree B n i k → (0 < k) × (k ≤ free + 1)
    count i k is = ⊎_elim
        (λ e. let high : k ≡ free + 1 = at_p i k e is in (omega arith, omega arith))
        (λ ne. let low = chain.counted i k (was i k ne is) in (low.0, omega (arith, low.1))) (cases_eq i p)

    -- the new top is alone at its height
    alone : (i j k : ℕ) → i ≡ p → j ≢ p → IsFree B n i k → IsFree B n j k → i ≡ j
    alone i j k e ne is js = let high : k ≡ free + 1 = at_p i k e is in let low = chain.counted j k (was j k ne js) in absurd (omega (arith, low.1))

    one : (i j k : ℕ) → IsFree B n i k → IsFree B n j k → i ≡ j
    one i j k is js = ⊎_elim
        (λ e. ⊎_elim (λ f. e ∙ sym f) (λ f. alone i j k e f is js) (cases_eq j p))
        (λ e. ⊎_elim (λ f. sym (alone j i k f e js is)) (λ f. chain.apart i j k (was i k e is) (was j k f js)) (cases_eq j p)) (cases_eq i p)

    next : (i k : ℕ) → IsFree B n i (k + 1) → 0 < k → IsFree B n (B i).link k
    next i k is pos = ⊎_elim
        (λ e. let high : k + 1 ≡ free + 1 = at_p i (k + 1) e is in let h : free ≡ k = omega arith in
        subst (λ l. IsFree B n l k) (sym (ap (λ j. (B j).link) e ∙ link)) (subst (λ f. IsFree B n first f) h (on first free (chain.top (omega arith)))))
        (λ ne. subst (λ l. IsFree B n l k) (ap (λ c. c.link) (sym (same i ne))) (on (A i).link k (chain.linked i k (was i (k + 1) ne is) pos))) (cases_eq i p)

    pub chain_push : IsChain B n p (free + 1)
    chain_push = record { counted = count; apart = one; linked = next; top = λ _. (within, number, after) }

-- a block of free cells comes in front of the chain
module _ {X : Type 0} (A B : ℕ → Cell X) (n w m first free : ℕ) (some : 0 < w) (m_is : m ≡ n + w) (old : (i : ℕ) → i < n → B i ≡ A i)
    (number : (k : ℕ) → k < w → (B (n + k)).number ≡ free + (w - k)) (value : (i : ℕ) → n ≤ i → (B i).value ≡ None)
    (link : (k : ℕ) → k + 1 < w → (B (n + k)).link ≡ n + (k + 1)) (last : (B (n + (w - 1))).link ≡ first) (chain : IsChain A n first free) where
  on_old : (i k : ℕ) → IsFree A n i k → IsFree B m i k
  on_old i k is = let e = old i is.0 in let lt : i < n = is.0 in (omega arith, ap (λ c. c.number) e ∙ is.1, ap (λ c. c.value) e ∙ is.2)

  was_old : (i k : ℕ) → i < n → IsFree B m i k → IsFree A n i k
  was_old i k lt is = let e = sym (old i lt) in (lt, ap (λ c. c.number) e ∙ is.1, ap (λ c. c.value) e ∙ is.2)

  -- a new cell's height
  height : (i k : ℕ) → n ≤ i → IsFree B m i k → k + (i - n) ≡ free + w
  height i k ge is =
      let lt : i < m = is.0 in let back : n + (i - n) ≡ i = omega arith in
      let h : (B i).number ≡ free + (w - (i - n)) = subst (λ j. (B j).number ≡ free + (w - (i - n))) back (number (i - n) (omega arith)) in
      let e : (B i).number ≡ k = is.1 in omega arith

  is_new : (i k : ℕ) → n ≤ i → i < m → k + (i - n) ≡ free + w → IsFree B m i k
  is_new i k ge lt e =
      let back : n + (i - n) ≡ i = omega arith in
      let h : (B i).number ≡ free + (w - (i - n)) = subst (λ j. (B j).number ≡ free + (w - (i - n))) back (number (i - n) (omega arith)) in
      (lt, omega arith, value i ge)

  count_more : (i k : ℕ) → IsFree B m i k → (0 < k) × (k ≤ free + w)
  count_more i k is = ⊎_elim
      (λ lt. let c = chain.counted i k (was_old i k lt is) in (c.0, omega (arith, c.1)))
      (λ ge. let h = height i k ge is in let lt : i < m = is.0 in (omega arith, omega arith)) (cases_lt i n)

  apart_new : (i j k : ℕ) → i < n → n ≤ j → IsFree B m i k → IsFree B m j k → i ≡ j
  apart_new i j k lt ge is js = let c = chain.counted i k (was_old i k lt is) in let h = height j k ge js in let within : j < m = js.0 in absurd (omega (arith, c.1))

  one_more : (i j k : ℕ) → IsFree B m i k → IsFree B m j k → i ≡ j
  one_more i j k is js = ⊎_elim
      (λ a. ⊎_elim (λ b. chain.apart i j k (was_old i k a is) (was_old j k b js)) (λ b. apart_new i j k a b is js) (cases_lt j n))
      (λ a. ⊎_elim (λ b. sym (apart_new j i k b a js is)) (λ b. let h = height i k a is in let g = height j k b js in omega arith) (cases_lt j n)) (cases_lt i n)

  next_new : (i k : ℕ) → n ≤ i → IsFree B m i (k + 1) → 0 < k → IsFree B m (B i).link k
  next_new i k ge is pos =
      let h = height i (k + 1) ge is in let lt : i < m = is.0 in let back : n + (i - n) ≡ i = omega arith in
      ⊎_elim
      (λ inner.
      let l : (B i).link ≡ i + 1 = subst (λ j. (B j).link ≡ j + 1) back (omega (arith, link (i - n) inner)) in
      subst (λ j. IsFree B m j k) (sym l) (is_new (i + 1) k (omega arith) (omega arith) (omega arith)))
      (λ end.
      let there : n + (w - 1) ≡ i = omega arith in let all : free ≡ k = omega arith in
      let l : (B i).link ≡ first = subst (λ j. (B j).link ≡ first) there last in
      subst (λ j. IsFree B m j k) (sym l) (subst (λ f. IsFree B m first f) all (on_old first free (chain.top (omega arith))))) (cases_lt (i - n + 1) w)

  next_more : (i k : ℕ) → IsFree B m i (k + 1) → 0 < k → IsFree B m (B i).link k
  next_more i k is pos = ⊎_elim
      (λ lt. subst (λ l. IsFree B m l k) (ap (λ c. c.link) (sym (old i lt))) (on_old (A i).link k (chain.linked i k (was_old i (k + 1) lt is) pos)))
      (λ ge. next_new i k ge is pos) (cases_lt i n)

  pub chain_grow : IsChain B m n (free + w)
  chain_grow = record { counted = count_more; apart = one_more; linked = next_more; top = λ _. is_new n (free + w) (omega arith) (omega arith) (omega arith) }
