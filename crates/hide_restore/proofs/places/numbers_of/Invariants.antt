use Rattle.std.proofs.Common.{◌≡◌, take}
use Rattle.hide_restore.specs.Net.{numbers_of_nodes}
use Rattle.hide_restore.proofs.places.numbers_of.Given as goal

abbrev pub invariant-loop-node : goal.invariant-loop-node
invariant-loop-node l = l.numbers ≡ numbers_of_nodes (take l.node-index l.nodes)
