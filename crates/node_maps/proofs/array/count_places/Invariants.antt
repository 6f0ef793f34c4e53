use Rattle.std.proofs.Common.{◌^◌, ◌≤◌}
use Rattle.node_maps.proofs.array.count_places.Given as goal

abbrev pub invariant-loop-v : goal.invariant-loop-v
invariant-loop-v g l = l.count ≤ 2 ^ 32
