use Rattle.std.proofs.Common.{map, take}
use Rattle.node_maps.specs.Contents.{array_contents, IsServed}
use Rattle.node_maps.proofs.array.has_each.Given as goal

abbrev pub invariant-loop-v : goal.invariant-loop-v
invariant-loop-v g l = IsServed (array_contents l.made l.row) (map g.E.GraphItem.number (take l.v-index l.items))
