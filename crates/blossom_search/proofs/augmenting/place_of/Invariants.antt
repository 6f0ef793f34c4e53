use Rattle.std.proofs.Common.{◌≡◌, take}
use Rattle.graph_defs.specs.Count.{times}
use Rattle.blossom_search.proofs.augmenting.place_of.Given as goal

abbrev pub invariant-loop-place : goal.invariant-loop-place
invariant-loop-place l = times l.edge (take l.place l.edges) ≡ 0
