use Rattle.std.proofs.Common.{◌≡◌, ◌++◌, map, take}
use Rattle.flow_net.specs.Residual.{turned}
use Rattle.flow_net.proofs.darts.darts_of.Given as goal

abbrev pub invariant-loop-from : goal.invariant-loop-from
invariant-loop-from l = l.pairs.items ≡ l.arcs ++ map turned (take l.from-index l.arcs)
