use Rattle.std.proofs.Common.{◌≡◌, map, take}
use Rattle.node_maps.specs.Contents.{IsTable}
use Rattle.node_maps.proofs.array.filled.Given as goal

abbrev pub invariant-loop-v : goal.invariant-loop-v
invariant-loop-v g l = IsTable l.row (map g.E.GraphItem.number (take l.v-index l.items)) (λ _ x. x ≡ l.value)
