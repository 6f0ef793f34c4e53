-- Rows of places that are filled, or emptied, from the front on; and the free cells that a block comes with.
use Rattle.std.proofs.Common.{◌≡◌, ℕ, zero, suc, ◌+◌, ◌-◌, ◌<◌, List, [], ◌∷◌, map, length, get_or, set, replicate, Option, Some, None, refl, sym, ap, ◌∙◌, arith}
use Rattle.item_pool.specs.declared.block.Cell.{Cell}
use Rattle.item_pool.specs.Chained.{blank, chained}
use Rattle.item_pool.specs.Filled.{IsFilled, somes}

module _ {X : Type 0} where
  pub somes-map : (xs : List X) → somes (map Some xs) ≡ xs
  somes-map [] = refl
  somes-map (x ∷ xs) = ap (λ l. x ∷ l) (somes-map xs)

  map_at : (xs : List X) (i : ℕ) (d : X) → i < length xs → get_or (map Some xs) i None ≡ Some (get_or xs i d)
  map_at [] i d h = absurd (omega arith)
  map_at (x ∷ xs) zero d h = refl
  map_at (x ∷ xs) (suc i) d h = map_at xs i d (omega arith)

  map_set : (xs : List X) (i : ℕ) (w : X) → set (map Some xs) i (Some w) ≡ map Some (set xs i w)
  map_set [] i w = refl
  map_set (x ∷ xs) zero w = refl
  map_set (x ∷ xs) (suc i) w = ap (λ l. Some x ∷ l) (map_set xs i w)

  module _ (row : List (Option X)) (full : row ≡ map Some (somes row)) where
    pub some_at : (i : ℕ) (d : X) → i < length (somes row) → get_or row i None ≡ Some (get_or (somes row) i d)
    some_at i d h = ap (λ r. get_or r i None) full ∙ map_at (somes row) i d h

    pub is_filled : (i : ℕ) (d : X) → i < length (somes row) → IsFilled row i
    is_filled i d h = (get_or (somes row) i d, some_at i d h)

    set_is : (i : ℕ) (w : X) → set row i (Some w) ≡ map Some (set (somes row) i w)
    set_is i w = ap (λ r. set r i (Some w)) full ∙ map_set (somes row) i w

    pub somes-set : (i : ℕ) (w : X) → somes (set row i (Some w)) ≡ set (somes row) i w
    somes-set i w = ap somes (set_is i w) ∙ somes-map (set (somes row) i w)

    pub full-set : (i : ℕ) (w : X) → set row i (Some w) ≡ map Some (somes (set row i (Some w)))
    full-set i w = set_is i w ∙ ap (λ l. map Some l) (sym (somes-set i w))

  -- the first k values are there, and the others not yet
  pub filled_to : ℕ → List X → List (Option X)
  filled_to k [] = []
  filled_to zero (x ∷ xs) = None ∷ filled_to zero xs
  filled_to (suc k) (x ∷ xs) = Some x ∷ filled_to k xs

  pub filled_none : (xs : List X) → filled_to 0 xs ≡ replicate (length xs) None
  unfolding filled_to
  filled_none [] = refl
  filled_none (x ∷ xs) = ap (λ l. None ∷ l) (filled_none xs)

  pub length-filled : (k : ℕ) (xs : List X) → length (filled_to k xs) ≡ length xs
  unfolding filled_to
  length-filled k [] = refl
  length-filled zero (x ∷ xs) = ap suc (length-filled zero xs)
  length-filled (suc k) (x ∷ xs) = ap suc (length-filled k xs)

  pub filled_here : (k : ℕ) (xs : List X) → get_or (filled_to k xs) k None ≡ None
  unfolding filled_to
  filled_here k [] = refl
  filled_here zero (x ∷ xs) = refl
  filled_here (suc k) (x ∷ xs) = filled_here k xs

  pub filled_more : (k : ℕ) (xs : List X) (x : X) (d : X) → x ≡ get_or xs k d → k < length xs → set (filled_to k xs) k (Some x) ≡ filled_to (suc k) xs
  unfolding filled_to
  filled_more k [] x d e h = absurd (omega arith)
  filled_more zero (y ∷ xs) x d e h = ap (λ v. Some v ∷ filled_to zero xs) e
  filled_more (suc k) (y ∷ xs) x d e h = ap (λ l. Some y ∷ l) (filled_more k xs x d e (omega arith))

  pub filled_all : (xs : List X) → filled_to (length xs) xs ≡ map Some xs
  unfolding filled_to
  filled_all [] = refl
  filled_all (x ∷ xs) = ap (λ l. Some x ∷ l) (filled_all xs)

  -- the first k values are gone
  pub emptied_to : ℕ → List X → List (Option X)
  emptied_to k [] = []
  emptied_to zero (x ∷ xs) = Some x ∷ emptied_to zero xs
  emptied_to (suc k) (x ∷ xs) = None ∷ emptied_to k xs

  pub emptied_none : (xs : List X) → emptied_to 0 xs ≡ map Some xs
  unfolding emptied_to
  emptied_none [] = refl
  emptied_none (x ∷ xs) = ap (λ l. Some x ∷ l) (emptied_none xs)

  pub emptied_here : (k : ℕ) (xs : List X) (d : X) → k < length xs → get_or (emptied_to k xs) k None ≡ Some (get_or xs k d)
  unfolding emptied_to
  emptied_here k [] d h = absurd (omega arith)
  emptied_here zero (x ∷ xs) d h = refl
  emptied_here (suc k) (x ∷ xs) d h = emptied_here k xs d (omega arith)

  pub emptied_more : (k : ℕ) (xs : List X) → k < length xs → set (emptied_to k xs) k None ≡ emptied_to (suc k) xs
  unfolding emptied_to
  emptied_more k [] h = absurd (omega arith)
  emptied_more zero (x ∷ xs) h = refl
  emptied_more (suc k) (x ∷ xs) h = ap (λ l. None ∷ l) (emptied_more k xs (omega arith))

  pub emptied_all : (xs : List X) → emptied_to (length xs) xs ≡ replicate (length xs) None
  unfolding emptied_to
  emptied_all [] = refl
  emptied_all (x ∷ xs) = ap (λ l. None ∷ l) (emptied_all xs)

-- THE CELLS OF A NEW BLOCK

module _ (X : Type 0) where
  pub length-chained : (n base free next : ℕ) → length (chained {X = X} n base free next) ≡ n
  unfolding chained
  length-chained zero base free next = refl
  length-chained (suc zero) base free next = refl
  length-chained (suc (suc n)) base free next = ap suc (length-chained (suc n) (base + 1) free next)

  abbrev at_chained : ℕ → ℕ → ℕ → ℕ → ℕ → Cell X
  at_chained n base free next k = get_or (chained n base free next) k blank

  pub chained_value : (n base free next k : ℕ) → (at_chained n base free next k).value ≡ None
  unfolding chained
  chained_value zero base free next k = refl
  chained_value (suc zero) base free next zero = refl
  chained_value (suc zero) base free next (suc k) = refl
  chained_value (suc (suc n)) base free next zero = refl
  chained_value (suc (suc n)) base free next (suc k) = chained_value (suc n) (base + 1) free next k

  pub chained_number : (n base free next k : ℕ) → k < n → (at_chained n base free next k).number ≡ free + (n - k)
  unfolding chained
  chained_number zero base free next k h = absurd (omega arith)
  chained_number (suc zero) base free next zero h = omega arith
  chained_number (suc zero) base free next (suc k) h = absurd (omega arith)
  chained_number (suc (suc n)) base free next zero h = omega arith
  chained_number (suc (suc n)) base free next (suc k) h = omega (arith, chained_number (suc n) (base + 1) free next k (omega arith))

  pub chained_link : (n base free next k : ℕ) → k + 1 < n → (at_chained n base free next k).link ≡ base + (k + 1)
  unfolding chained
  chained_link zero base free next k h = absurd (omega arith)
  chained_link (suc zero) base free next k h = absurd (omega arith)
  chained_link (suc (suc n)) base free next zero h = omega arith
  chained_link (suc (suc n)) base free next (suc k) h = omega (arith, chained_link (suc n) (base + 1) free next k (omega arith))

  pub chained_last : (n base free next k : ℕ) → k + 1 ≡ n → (at_chained n base free next k).link ≡ next
  unfolding chained
  chained_last zero base free next k h = absurd (omega arith)
  chained_last (suc zero) base free next zero h = refl
  chained_last (suc zero) base free next (suc k) h = absurd (omega arith)
  chained_last (suc (suc n)) base free next zero h = absurd (omega arith)
  chained_last (suc (suc n)) base free next (suc k) h = chained_last (suc n) (base + 1) free next k (omega arith)
