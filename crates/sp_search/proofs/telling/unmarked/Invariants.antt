use Rattle.std.proofs.Common.{◌≡◌}
use Rattle.std.specs.List.{filter, range_with_len}
use Rattle.sp_search.specs.Telling.{neither}
use Rattle.sp_search.proofs.telling.unmarked.Given as goal

abbrev pub invariant-loop-node : goal.invariant-loop-node
invariant-loop-node l = l.nodes ≡ filter (neither l.some l.others) (range_with_len 0 l.node)
