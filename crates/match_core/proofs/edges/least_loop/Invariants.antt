use Rattle.std.proofs.Common.{take}
use Rattle.match_core.specs.Passes.{IsLeastLoop}
use Rattle.match_core.proofs.edges.least_loop.Given as goal

abbrev pub invariant-loop-edge : goal.invariant-loop-edge
invariant-loop-edge l = IsLeastLoop l.net (take l.edge-index l.edges) l.least
