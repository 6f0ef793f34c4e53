use Rattle.std.proofs.Common.{◌≡◌, length}
use Rattle.graph_state.specs.Edits.{cleared}
use Rattle.graph_core.proofs.graph.Graph.clear.Given as goal

abbrev pub invariant-loop-v : goal.invariant-loop-v
invariant-loop-v l = cleared l.self ≡ cleared l.initial.self

abbrev pub decreases-loop-v : goal.decreases-loop-v
decreases-loop-v l = length l.self.nodes

abbrev pub ghost-show : goal.ghost-show
ghost-show a = cleared a.seen.now.view
