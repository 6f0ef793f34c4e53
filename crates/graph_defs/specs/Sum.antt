-- Sums over the numbers below a number.
use Rattle.std.specs.Prelude.{ℕ, zero, suc, ◌+◌, ℤ, pos, ◌+ℤ◌, Bool, cond, List, slice_index_or}

-- the sum of f over the numbers below k
abbrev pub sum_below : (ℕ → ℤ) → ℕ → ℤ
sum_below f zero = pos 0
sum_below f (suc k) = sum_below f k +ℤ f k

-- the same of numbers of at least 0
abbrev pub total_below : (ℕ → ℕ) → ℕ → ℕ
total_below f zero = 0
total_below f (suc k) = total_below f k + f k

-- what stands at a place of a row of integers; 0 past its end, so that an empty row is a row of
-- zeros
abbrev pub at : List ℤ → ℕ → ℤ
at row k = slice_index_or row k (pos 0)

-- x where the test holds, else 0
abbrev pub when : Bool → ℤ → ℤ
when test x = cond test x (pos 0)
