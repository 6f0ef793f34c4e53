-- The homes that were looked at are free.
use Rattle.std.proofs.Common.{ℕ, ◌+◌, ◌<◌, ◌≤◌, length}
use Rattle.item_pool.specs.Homes.{IsFree}
use Rattle.item_pool.proofs.homes.Homes.free_from.Given as goal

abbrev pub invariant-loop-k : goal.invariant-loop-k
invariant-loop-k l = (l.k ≤ length l.self) × ((j : ℕ) → j < l.k → IsFree l.self (l.first + j))
