use Rattle.std.proofs.Common.{◌≡◌, take}
use Rattle.graph_defs.specs.Matching.{degree}
use Rattle.blossom_search.proofs.stem.mate_of.Given as goal

abbrev pub invariant-loop-edge : goal.invariant-loop-edge
invariant-loop-edge l = degree l.net l.node (take l.edge-index l.edges) ≡ 0
