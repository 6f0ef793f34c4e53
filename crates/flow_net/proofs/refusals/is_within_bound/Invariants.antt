use Rattle.std.proofs.Common.{◌≡◌, ◌*◌, ◌^◌, pos, neg_ℤ, ◌≤ℤ◌}
use Rattle.graph_defs.specs.Sum.{at, sum_below}
use Rattle.flow_net.proofs.refusals.is_within_bound.Given as goal

abbrev pub invariant-loop-one : goal.invariant-loop-one
invariant-loop-one l = (l.sum ≡ sum_below (at l.cap) l.one-index) × (neg_ℤ (pos (l.one-index * 2 ^ 63)) ≤ℤ l.sum)
    × (l.sum ≤ℤ pos (l.one-index * 2 ^ 63))
