use Rattle.graph_state.specs.Edits.{moved}
use Rattle.graph_core.proofs.graph.Graph.relocate.Given as goal

abbrev pub ghost-show : goal.ghost-show
ghost-show a = moved a.x a.v a.w a.seen.now.view
