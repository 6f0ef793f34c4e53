-- Private: free cells, as they come with a block.
use Rattle.std.specs.Prelude.{ℕ, ◌+◌, zero, suc, List, [], ◌∷◌, None}
use Rattle.item_pool.specs.declared.block.Cell.{Cell}

module _ {X : Type 0} where
  -- what stands for a cell where there is none
  abbrev pub blank : Cell X
  blank = record { number = 0; link = 0; value = None }

  -- n free cells from the slot base on, each linked to the next, and the last to the slot next,
  -- from which on the chain has free cells
  unfoldable pub chained : ℕ → ℕ → ℕ → ℕ → List (Cell X)
  chained zero base free next = []
  chained (suc zero) base free next = record { number = free + 1; link = next; value = None } ∷ []
  chained (suc (suc n)) base free next =
      record { number = free + suc (suc n); link = base + 1; value = None }
      ∷ chained (suc n) (base + 1) free next
