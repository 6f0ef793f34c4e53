use Rattle.std.proofs.Common.{◌-◌, length}
use Rattle.graph_defs.specs.Matching.{IsMatching}
use Rattle.blossom_search.proofs.maximum.max_matching.Given as goal

abbrev pub invariant-loop-m : goal.invariant-loop-m
invariant-loop-m l = IsMatching l.net l.m.edges

abbrev pub decreases-loop-m : goal.decreases-loop-m
decreases-loop-m l = l.net.n - length l.m.edges
