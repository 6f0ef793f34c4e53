use Rattle.std.proofs.Common.{◌≡◌, take}
use Rattle.std.specs.List.{flat_map}
use Rattle.hide_restore.specs.Net.{numbers_of_nodes}
use Rattle.hide_restore.specs.Canon.{edges_from}
use Rattle.hide_restore.proofs.canon.edges_of.Given as goal

abbrev pub invariant-loop-node : goal.invariant-loop-node
invariant-loop-node l = l.edges ≡ flat_map (edges_from l.g) (numbers_of_nodes (take l.node-index l.nodes))
