use Rattle.std.proofs.Common.{◌≡◌, map, take}
use Rattle.hide_restore.specs.Net.{numbers_of_edges, arc_of}
use Rattle.hide_restore.proofs.shown.arcs_of.Given as goal

abbrev pub invariant-loop-edge : goal.invariant-loop-edge
invariant-loop-edge l = l.arcs ≡ map (arc_of l.g) (numbers_of_edges (take l.edge-index l.edges))
