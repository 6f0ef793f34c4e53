use Rattle.graph_state.specs.Edits.{paired}
use Rattle.graph_core.proofs.graph.Graph.pair.Given as goal

abbrev pub ghost-show : goal.ghost-show
ghost-show a = paired a.x a.v a.seen.now.view
