use Rattle.std.proofs.Common.{ℕ, ◌<◌, ◌≤◌}
use Rattle.graph_defs.specs.Matching.{degree}
use Rattle.match_core.proofs.edges.first_shared.Given as goal

abbrev pub invariant-loop-node : goal.invariant-loop-node
invariant-loop-node l = (node : ℕ) → node < l.node → degree l.net node l.edges ≤ 1
