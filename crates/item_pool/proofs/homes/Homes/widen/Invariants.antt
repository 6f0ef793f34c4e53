-- Who is at home stays there, and who has a free home keeps one.
use Rattle.std.proofs.Common.{◌≡◌, ℕ, ◌-◌, length}
use Rattle.item_pool.specs.Homes.{at_home, StayFree}
use Rattle.item_pool.proofs.homes.Homes.widen.Given as goal

abbrev pub invariant-loop-self : goal.invariant-loop-self
invariant-loop-self l = ((s : ℕ) → at_home l.self s ≡ at_home l.initial.self s) × StayFree l.initial.self l.self

abbrev pub decreases-loop-self : goal.decreases-loop-self
decreases-loop-self l = l.values - length l.self
