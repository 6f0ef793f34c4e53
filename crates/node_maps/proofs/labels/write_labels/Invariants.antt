use Rattle.std.proofs.Common.{map, take}
use Rattle.graph_state.specs.Names.{Has}
use Rattle.node_maps.specs.Contents.{IsTable}
use Rattle.node_maps.specs.Labels.{Reads}
use Rattle.node_maps.proofs.labels.write_labels.Given as goal

abbrev pub invariant-loop-v : goal.invariant-loop-v
invariant-loop-v g l =
    IsTable l.row (map g.E.GraphItem.number l.items)
    (λ m y. Has m (map g.E.GraphItem.number (take l.v-index l.items)) → Reads (g.E.GraphItem.label l.g m) y)
