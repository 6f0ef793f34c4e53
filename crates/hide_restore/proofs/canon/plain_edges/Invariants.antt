use Rattle.std.proofs.Common.{◌≡◌, map, take}
use Rattle.hide_restore.specs.Canon.{ordered_edges, plain_edge}
use Rattle.hide_restore.proofs.canon.plain_edges.Given as goal

abbrev pub invariant-loop-number : goal.invariant-loop-number
invariant-loop-number l = l.row ≡ map (plain_edge l.g (ordered_edges l.g)) (take l.number-index l.numbers)
