-- What holds from round to round.
use Rattle.std.proofs.Common.{ℕ, ◌+◌, ◌*◌, ◌≤◌}
use Rattle.std.specs.FinMap as map
use Rattle.item_ring.specs.RingLists.{RingLists, IsLinkedIn}
use Rattle.item_ring.proofs.tests.spread.Given as goal

pub record KeepsOn (now first : RingLists) (h mid round : ℕ) : Type 0 where
  pub linked : IsLinkedIn now h mid
  pub few : map.len now.tags ≤ map.len first.tags + 3 * round

abbrev pub invariant-loop-round : goal.invariant-loop-round
invariant-loop-round l = KeepsOn l.rings l.initial.rings l.h l.mid l.round
