use Rattle.std.proofs.Common.{drop, ◌+◌}
use Rattle.blossom_search.proofs.Swaps.{IsShifted}
use Rattle.blossom_search.proofs.augmenting.augment.Given as goal

abbrev pub invariant-loop-half : goal.invariant-loop-half
invariant-loop-half l = IsShifted l.net l.m.edges (drop (l.half + l.half) l.path) l.edges.items
