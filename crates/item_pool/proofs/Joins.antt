-- Many blocks as one list: what stands at an index, and what a write to it leaves.
use Rattle.std.proofs.Common.{◌≡◌, ℕ, zero, suc, ◌+◌, ◌-◌, ◌*◌, ◌<◌, ◌≤◌, ◌^◌, List, [], ◌∷◌, ◌++◌, length, get_or, set, refl, sym, ap, ◌∙◌, ⊎_elim, arith, append_assoc, length-append}
use Rattle.std.proofs.lemmas.Bool.{cases_lt}
use Rattle.std.proofs.Math.Pow.{pow_mono}
use Rattle.std.proofs.Math.Nat.{pow-suc}
use Rattle.item_pool.specs.Joined.{block_size, LiesAt, joined, AreBlocks}

pub n≤block_size : (n k : ℕ) → n ≤ block_size n k
n≤block_size n zero = omega arith
n≤block_size n (suc k) = omega (arith, n≤block_size (n + n) k)

-- sizes are powers of two where the first is one
block_size-power : (e k : ℕ) → block_size (2 ^ e) k ≡ 2 ^ (e + k)
block_size-power e zero = ap (λ j. 2 ^ j) (let same : e ≡ e + 0 = omega arith in same)
block_size-power e (suc k) =
    let twice : 2 ^ e + 2 ^ e ≡ 2 ^ suc e = omega (arith, pow-suc 2 e) in
    let more : suc e + k ≡ e + suc k = omega arith in
    ap (λ n. block_size n k) twice ∙ block_size-power (suc e) k ∙ ap (λ j. 2 ^ j) more

-- the highest bit of a number from 64 on is at least the one of 64
pub high_bit : (n e : ℕ) → 64 ≤ n → n < 2 * 2 ^ e → 6 ≤ e
high_bit n e ge lt = ⊎_elim (λ low. let most : 2 ^ e ≤ 2 ^ 5 = pow_mono {i = e} {j = 5} (omega arith) in absurd (omega arith)) (λ high. high) (cases_lt e 6)

-- a slot lies in the block of the highest bit of the slot and 64
pub lies_at : (slot e : ℕ) → 6 ≤ e → 2 ^ e ≤ slot + 64 → slot + 64 < 2 * 2 ^ e → LiesAt slot (e - 6) (slot + 64 - 2 ^ e)
lies_at slot e ge low high =
    let back : 6 + (e - 6) ≡ e = omega arith in
    let size : block_size 64 (e - 6) ≡ 2 ^ e = block_size-power 6 (e - 6) ∙ ap (λ j. 2 ^ j) back in
    (omega (arith, size), omega (arith, size))

module _ {X : Type 0} where
  pub any_default : (xs : List X) (i : ℕ) (d e : X) → i < length xs → get_or xs i d ≡ get_or xs i e
  any_default [] i d e h = absurd (omega arith)
  any_default (x ∷ xs) zero d e h = refl
  any_default (x ∷ xs) (suc i) d e h = any_default xs i d e (omega arith)

  pub at_left : (xs ys : List X) (i : ℕ) (d : X) → i < length xs → get_or (xs ++ ys) i d ≡ get_or xs i d
  at_left [] ys i d h = absurd (omega arith)
  at_left (x ∷ xs) ys zero d h = refl
  at_left (x ∷ xs) ys (suc i) d h = at_left xs ys i d (omega arith)

  pub at_right : (xs ys : List X) (i j : ℕ) (d : X) → i ≡ length xs + j → get_or (xs ++ ys) i d ≡ get_or ys j d
  at_right [] ys i j d e = let same : i ≡ j = omega arith in ap (λ k. get_or ys k d) same
  at_right (x ∷ xs) ys zero j d e = absurd (omega arith)
  at_right (x ∷ xs) ys (suc i) j d e = at_right xs ys i j d (omega arith)

  set_left : (xs ys : List X) (i : ℕ) (w : X) → i < length xs → set (xs ++ ys) i w ≡ set xs i w ++ ys
  set_left [] ys i w h = absurd (omega arith)
  set_left (x ∷ xs) ys zero w h = refl
  set_left (x ∷ xs) ys (suc i) w h = ap (λ l. x ∷ l) (set_left xs ys i w (omega arith))

  set_right : (xs ys : List X) (i j : ℕ) (w : X) → i ≡ length xs + j → set (xs ++ ys) i w ≡ xs ++ set ys j w
  set_right [] ys i j w e = let same : i ≡ j = omega arith in ap (λ k. set ys k w) same
  set_right (x ∷ xs) ys zero j w e = absurd (omega arith)
  set_right (x ∷ xs) ys (suc i) j w e = ap (λ l. x ∷ l) (set_right xs ys i j w (omega arith))

  -- an index of the joined list lies in the block k at the place r, where i + n ≡ block_size n k + r
  pub is_block : (n : ℕ) (bs : List (List X)) → AreBlocks n bs → (i k r : ℕ) → i + n ≡ block_size n k + r → i < length (joined bs) → k < length bs
  is_block n [] sizes i k r e lt = absurd (omega arith)
  is_block n (b ∷ bs) sizes i zero r e lt = omega arith
  is_block n (b ∷ bs) sizes i (suc k) r e lt =
      let long = n≤block_size (n + n) k in
      omega (arith, is_block (n + n) bs sizes.1 (i - n) k r (omega (arith, long)) (omega (arith, length-append b (joined bs), sizes.0, long)))

  pub joined_at : (n : ℕ) (bs : List (List X)) → AreBlocks n bs → (i k r : ℕ) (d : X) → i + n ≡ block_size n k + r → r < block_size n k → get_or (joined bs) i d ≡ get_or (get_or bs k []) r d
  joined_at n [] sizes i k r d e h = refl
  joined_at n (b ∷ bs) sizes i zero r d e h = let same : i ≡ r = omega arith in at_left b (joined bs) i d (omega (arith, sizes.0)) ∙ ap (λ j. get_or b j d) same
  joined_at n (b ∷ bs) sizes i (suc k) r d e h =
      let long = n≤block_size (n + n) k in
      at_right b (joined bs) i (i - n) d (omega (arith, sizes.0, long)) ∙ joined_at (n + n) bs sizes.1 (i - n) k r d (omega (arith, long)) h

  pub joined_set : (n : ℕ) (bs : List (List X)) → AreBlocks n bs → (i k r : ℕ) (w : X) → i + n ≡ block_size n k + r → r < block_size n k → joined (set bs k (set (get_or bs k []) r w)) ≡ set (joined bs) i w
  joined_set n [] sizes i k r w e h = refl
  joined_set n (b ∷ bs) sizes i zero r w e h = let same : r ≡ i = omega arith in ap (λ j. set b j w ++ joined bs) same ∙ sym (set_left b (joined bs) i w (omega (arith, sizes.0)))
  joined_set n (b ∷ bs) sizes i (suc k) r w e h =
      let long = n≤block_size (n + n) k in
      ap (λ l. b ++ l) (joined_set (n + n) bs sizes.1 (i - n) k r w (omega (arith, long)) h) ∙ sym (set_right b (joined bs) i (i - n) w (omega (arith, sizes.0, long)))

  pub length-joined : (n : ℕ) (bs : List (List X)) → AreBlocks n bs → length (joined bs) + n ≡ block_size n (length bs)
  length-joined n [] sizes = omega arith
  length-joined n (b ∷ bs) sizes = omega (arith, length-append b (joined bs), length-joined (n + n) bs sizes.1, sizes.0)

  pub block_long : (n : ℕ) (bs : List (List X)) → AreBlocks n bs → (k : ℕ) → k < length bs → length (get_or bs k []) ≡ block_size n k
  block_long n [] sizes k h = absurd (omega arith)
  block_long n (b ∷ bs) sizes zero h = sizes.0
  block_long n (b ∷ bs) sizes (suc k) h = block_long (n + n) bs sizes.1 k (omega arith)

  pub AreBlocks-set : (n : ℕ) (bs : List (List X)) → AreBlocks n bs → (k : ℕ) (b : List X) → length b ≡ block_size n k → AreBlocks n (set bs k b)
  AreBlocks-set n [] sizes k b h = tt
  AreBlocks-set n (a ∷ bs) sizes zero b h = (h, sizes.1)
  AreBlocks-set n (a ∷ bs) sizes (suc k) b h = (sizes.0, AreBlocks-set (n + n) bs sizes.1 k b h)

  pub AreBlocks-push : (n : ℕ) (bs : List (List X)) → AreBlocks n bs → (b : List X) → length b ≡ block_size n (length bs) → AreBlocks n (bs ++ b ∷ [])
  AreBlocks-push n [] sizes b h = (h, tt)
  AreBlocks-push n (a ∷ bs) sizes b h = (sizes.0, AreBlocks-push (n + n) bs sizes.1 b h)

  pub joined-push : (bs : List (List X)) (b : List X) → joined (bs ++ b ∷ []) ≡ joined bs ++ b
  joined-push [] [] = refl
  joined-push [] (x ∷ b) = ap (λ l. x ∷ l) (joined-push [] b)
  joined-push (a ∷ bs) b = ap (λ l. a ++ l) (joined-push bs b) ∙ sym (append_assoc a (joined bs) b)
