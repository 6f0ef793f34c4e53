-- What each step does to the table and to the map of live values.
use Rattle.std.proofs.Common.{◌≡◌, ℕ, ◌+◌, ◌<◌, ◌≤◌, ◌≢◌, Option, Some, None, sym, ap, ◌∙◌, ⊎_elim, arith}
use Rattle.std.proofs.lemmas.Bool.{cases_eq, cases_lt}
use Rattle.item_pool.specs.declared.block.Cell.{Cell}
use Rattle.item_pool.specs.CellsKept.{IsLive, IsTable}

-- THE TABLE

module _ {X : Type 0} (A B : ℕ → Cell X) (p : ℕ) (same : (i : ℕ) → i ≢ p → B i ≡ A i) (t u : ℕ → Option ℕ) (made : ℕ) (table : IsTable A t made) where
  live_on : (i s : ℕ) (x : X) → i ≢ p → IsLive A i s x → IsLive B i s x
  live_on i s x ne live = let e = same i ne in (ap (λ c. c.number) e ∙ live.0, ap (λ c. c.value) e ∙ live.1)

  live_was : (i s : ℕ) (x : X) → i ≢ p → IsLive B i s x → IsLive A i s x
  live_was i s x ne live = let e = sym (same i ne) in (ap (λ c. c.number) e ∙ live.0, ap (λ c. c.value) e ∙ live.1)

  -- a free cell gets a value under a new serial
  module _ (m : ℕ) (y : X) (next : m ≡ made + 1) (before : (A p).value ≡ None) (after : IsLive B p m y) (here : u m ≡ Some p) (others : (s : ℕ) → s ≢ m → u s ≡ t s) where
    older : (s i : ℕ) → t s ≡ Some i → s ≢ m
    older s i e is = let low = table.given s i e in absurd (omega (arith, low.1))

    put_found : (s i : ℕ) → u s ≡ Some i → (x : X) × IsLive B i s x
    put_found s i e = ⊎_elim
        (λ is. let at_p : Some p ≡ Some i = sym here ∙ ap u (sym is) ∙ e in let q : p ≡ i = cc in
        (y, (ap (λ j. (B j).number) (sym q) ∙ after.0 ∙ sym is, ap (λ j. (B j).value) (sym q) ∙ after.1)))
        (λ ne. let f = table.found s i (sym (others s ne) ∙ e) in
        (f.0, live_on i s f.0 (λ q. let twice : None ≡ Some f.0 = sym before ∙ ap (λ j. (A j).value) (sym q) ∙ f.1.1 in cc) f.1)) (cases_eq s m)

    put_listed : (i s : ℕ) (x : X) → IsLive B i s x → u s ≡ Some i
    put_listed i s x live = ⊎_elim
        (λ is. let q : s ≡ m = sym live.0 ∙ ap (λ j. (B j).number) is ∙ after.0 in ap u q ∙ here ∙ ap (λ j. Some j) (sym is))
        (λ ne. let e = table.listed i s x (live_was i s x ne live) in others s (older s i e) ∙ e) (cases_eq i p)

    put_given : (s i : ℕ) → u s ≡ Some i → (0 < s) × (s ≤ m)
    put_given s i e = ⊎_elim
        (λ is. (omega arith, omega arith))
        (λ ne. let low = table.given s i (sym (others s ne) ∙ e) in (low.0, omega (arith, low.1))) (cases_eq s m)

    pub table_put : IsTable B u m
    table_put = record { found = put_found; listed = put_listed; given = put_given }

  -- a live cell becomes free
  module _ (m : ℕ) (x : X) (before : IsLive A p m x) (after : (B p).value ≡ None) (here : u m ≡ None) (others : (s : ℕ) → s ≢ m → u s ≡ t s) where
    take_found : (s i : ℕ) → u s ≡ Some i → (y : X) × IsLive B i s y
    take_found s i e = ⊎_elim
        (λ is. let twice : None ≡ Some i = sym here ∙ ap u (sym is) ∙ e in cc)
        (λ ne. let f = table.found s i (sym (others s ne) ∙ e) in
        (f.0, live_on i s f.0 (λ q. ne (sym f.1.0 ∙ ap (λ j. (A j).number) q ∙ before.0)) f.1)) (cases_eq s m)

    take_listed : (i s : ℕ) (y : X) → IsLive B i s y → u s ≡ Some i
    take_listed i s y live = ⊎_elim
        (λ is. let twice : None ≡ Some y = sym after ∙ ap (λ j. (B j).value) (sym is) ∙ live.1 in cc)
        (λ ne. let e = table.listed i s y (live_was i s y ne live) in
        others s (λ q. ne (let twice : Some i ≡ Some p = sym e ∙ ap t q ∙ table.listed p m x before in cc)) ∙ e) (cases_eq i p)

    take_given : (s i : ℕ) → u s ≡ Some i → (0 < s) × (s ≤ made)
    take_given s i e = ⊎_elim
        (λ is. let twice : None ≡ Some i = sym here ∙ ap u (sym is) ∙ e in cc)
        (λ ne. table.given s i (sym (others s ne) ∙ e)) (cases_eq s m)

    pub table_take : IsTable B u made
    table_take = record { found = take_found; listed = take_listed; given = take_given }

  -- a live cell's value changes
  module _ (m : ℕ) (x y : X) (before : IsLive A p m x) (after : IsLive B p m y) where
    write_found : (s i : ℕ) → t s ≡ Some i → (z : X) × IsLive B i s z
    write_found s i e = let f = table.found s i e in ⊎_elim
        (λ is. let q : m ≡ s = sym before.0 ∙ ap (λ j. (A j).number) (sym is) ∙ f.1.0 in
        (y, (ap (λ j. (B j).number) is ∙ after.0 ∙ q, ap (λ j. (B j).value) is ∙ after.1)))
        (λ ne. (f.0, live_on i s f.0 ne f.1)) (cases_eq i p)

    write_listed : (i s : ℕ) (z : X) → IsLive B i s z → t s ≡ Some i
    write_listed i s z live = ⊎_elim
        (λ is. let q : s ≡ m = sym live.0 ∙ ap (λ j. (B j).number) is ∙ after.0 in ap t q ∙ table.listed p m x before ∙ ap (λ j. Some j) (sym is))
        (λ ne. table.listed i s z (live_was i s z ne live)) (cases_eq i p)

    pub table_write : IsTable B t made
    table_write = record { found = write_found; listed = write_listed; given = table.given }

-- there are more free cells
module _ {X : Type 0} (A B : ℕ → Cell X) (n : ℕ) (old : (i : ℕ) → i < n → B i ≡ A i) (past : (i : ℕ) → n ≤ i → (A i).value ≡ None) (free : (i : ℕ) → n ≤ i → (B i).value ≡ None) (t : ℕ → Option ℕ) (made : ℕ) (table : IsTable A t made) where
  grow_found : (s i : ℕ) → t s ≡ Some i → (x : X) × IsLive B i s x
  grow_found s i e = let f = table.found s i e in ⊎_elim
      (λ lt. let q = old i lt in (f.0, (ap (λ c. c.number) q ∙ f.1.0, ap (λ c. c.value) q ∙ f.1.1)))
      (λ ge. let twice : None ≡ Some f.0 = sym (past i ge) ∙ f.1.1 in cc) (cases_lt i n)

  grow_listed : (i s : ℕ) (x : X) → IsLive B i s x → t s ≡ Some i
  grow_listed i s x live = ⊎_elim
      (λ lt. let q = sym (old i lt) in table.listed i s x (ap (λ c. c.number) q ∙ live.0, ap (λ c. c.value) q ∙ live.1))
      (λ ge. let twice : None ≡ Some x = sym (free i ge) ∙ live.1 in cc) (cases_lt i n)

  pub table_grow : IsTable B t made
  table_grow = record { found = grow_found; listed = grow_listed; given = table.given }
