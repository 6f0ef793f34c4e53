use Rattle.match_core.specs.Passes.{AreDegrees}
use Rattle.match_core.proofs.edges.degrees_of.Given as goal

abbrev pub invariant-loop-edge : goal.invariant-loop-edge
invariant-loop-edge l = AreDegrees l.net l.edges l.edge-index l.degrees.items
