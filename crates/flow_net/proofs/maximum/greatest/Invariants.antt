use Rattle.std.proofs.Common.{◌≡◌, pos, ◌≤ℤ◌}
use Rattle.graph_defs.specs.Flow.{IsFlow, outflow}
use Rattle.flow_net.proofs.Rounds.{left}
use Rattle.flow_net.proofs.maximum.greatest.Given as goal

abbrev pub invariant-loop-flow : goal.invariant-loop-flow
invariant-loop-flow l = IsFlow l.net l.s l.t l.cap l.flow.items × (l.value ≡ outflow l.net l.flow.items l.s) × (pos 0 ≤ℤ l.value)

abbrev pub decreases-loop-flow : goal.decreases-loop-flow
decreases-loop-flow l = left l.net l.s l.cap l.flow.items
