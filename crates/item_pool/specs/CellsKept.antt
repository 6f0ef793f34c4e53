-- Private: how the cells of a pool hold its values, its table finds them, and its free cells are
-- chained.
use Rattle.std.specs.Prelude.{◌≡◌, ℕ, ◌+◌, ◌<◌, ◌≤◌, List, [], ◌∷◌, get_or, length, Option, Some, None}
use Rattle.std.specs.Ordering.{nat_cmp}
use Rattle.std.specs.FinMap as map
use Rattle.item_pool.specs.declared.block.Cell.{Cell}
use Rattle.item_pool.specs.Chained.{blank}

module _ {X : Type 0} where
  abbrev pub cell_at : List (Cell X) → ℕ → Cell X
  cell_at cells slot = get_or cells slot blank

  abbrev pub with_value : Cell X → X → Cell X
  with_value c x = record { number = c.number; link = c.link; value = Some x }

  -- the live values, each with its serial
  abbrev pub entry : ℕ → Option X → List (ℕ × X) → List (ℕ × X)
  entry s None es = es
  entry s (Some x) es = (s, x) ∷ es

  abbrev pub live_entries : List (Cell X) → List (ℕ × X)
  live_entries [] = []
  live_entries (c ∷ cells) = entry c.number c.value (live_entries cells)

  abbrev pub live_of : List (Cell X) → map.FinMap nat_cmp X
  live_of cells = map.from_entries (live_entries cells)

  -- the cell in the slot i has the value x under the serial s
  abbrev pub IsLive : (ℕ → Cell X) → ℕ → ℕ → X → Type 0
  IsLive at i s x = ((at i).number ≡ s) × ((at i).value ≡ Some x)

  -- the table has the slots of the live cells, by their serials, and no others
  pub record IsTable (at : ℕ → Cell X) (slot_of : ℕ → Option ℕ) (made : ℕ) : Type 0 where
    pub found : (s i : ℕ) → slot_of s ≡ Some i → (x : X) × IsLive at i s x
    pub listed : (i s : ℕ) (x : X) → IsLive at i s x → slot_of s ≡ Some i
    pub given : (s i : ℕ) → slot_of s ≡ Some i → (0 < s) × (s ≤ made)

  -- the cell in the slot i, one of the first n, is free, and the chain has k cells from it on
  abbrev pub IsFree : (ℕ → Cell X) → ℕ → ℕ → ℕ → Type 0
  IsFree at n i k = (i < n) × ((at i).number ≡ k) × ((at i).value ≡ None)

  -- the free cells are one chain of the length free, from the slot first on
  pub record IsChain (at : ℕ → Cell X) (n first free : ℕ) : Type 0 where
    pub counted : (i k : ℕ) → IsFree at n i k → (0 < k) × (k ≤ free)
    pub apart : (i j k : ℕ) → IsFree at n i k → IsFree at n j k → i ≡ j
    pub linked : (i k : ℕ) → IsFree at n i (k + 1) → 0 < k → IsFree at n (at i).link k
    pub top : 0 < free → IsFree at n first free

  -- more cells, and all that are new are free
  pub record IsGrown (cells more : List (Cell X)) : Type 0 where
    pub old : (i : ℕ) → i < length cells → cell_at more i ≡ cell_at cells i
    pub new : (i : ℕ) → length cells ≤ i → (cell_at more i).value ≡ None
    pub live : live_of more ≡ live_of cells
    pub longer : length cells ≤ length more
