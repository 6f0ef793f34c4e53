use Rattle.std.proofs.Common.{◌≡◌, ◌*◌, ◌^◌, pos, ◌≤ℤ◌}
use Rattle.graph_defs.specs.Sum.{at, sum_below}
use Rattle.sp_search.specs.Telling.{size}
use Rattle.sp_search.proofs.refusals.sizes_of.Given as goal

abbrev pub invariant-loop-one : goal.invariant-loop-one
invariant-loop-one l = (l.sum ≡ sum_below (λ arc. size (at l.cost arc)) l.one-index) × (pos 0 ≤ℤ l.sum) × (l.sum ≤ℤ pos (l.one-index * 2 ^ 63))
