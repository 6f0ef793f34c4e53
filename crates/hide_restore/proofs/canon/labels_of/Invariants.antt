use Rattle.std.proofs.Common.{◌≡◌, map, take}
use Rattle.graph_state.specs.State.{node_label}
use Rattle.hide_restore.specs.Net.{numbers_of_nodes}
use Rattle.hide_restore.proofs.canon.labels_of.Given as goal

abbrev pub invariant-loop-node : goal.invariant-loop-node
invariant-loop-node l = l.labels ≡ map (node_label l.g) (numbers_of_nodes (take l.node-index l.nodes))
