-- Private: many blocks as one list of cells.
use Rattle.std.specs.Prelude.{◌≡◌, ℕ, zero, suc, ◌+◌, ◌<◌, List, [], ◌∷◌, ◌++◌, length}

-- how many elements the block with the number k has, where the first has n, and each other twice as
-- many as the one before
abbrev pub block_size : ℕ → ℕ → ℕ
block_size n zero = n
block_size n (suc k) = block_size (n + n) k

-- the slot lies in the block with the number k, at the place i
abbrev pub LiesAt : ℕ → ℕ → ℕ → Type 0
LiesAt slot k i = (slot + 64 ≡ block_size 64 k + i) × (i < block_size 64 k)

module _ {X : Type 0} where
  -- the lists, one behind the other
  abbrev pub joined : List (List X) → List X
  joined [] = []
  joined (b ∷ bs) = b ++ joined bs

  -- the first has n elements, and each other twice as many as the one before
  abbrev pub AreBlocks : ℕ → List (List X) → Type 0
  AreBlocks n [] = Unit {0}
  AreBlocks n (b ∷ bs) = (length b ≡ n) × AreBlocks (n + n) bs
