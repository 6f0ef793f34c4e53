-- Each turn made one member at most.
use Rattle.std.proofs.Common.{◌≤◌}
use Rattle.std.specs.FinMap as map
use Rattle.item_bench.proofs.memory.fill_rings.Given as goal

abbrev pub invariant-loop-tag : goal.invariant-loop-tag
invariant-loop-tag l = map.len l.rings.tags ≤ l.tag
