use Rattle.graph_state.specs.Turned.{kind_changed}
use Rattle.graph_core.proofs.graph.Graph.change_kind.Given as goal

abbrev pub ghost-show : goal.ghost-show
ghost-show a = kind_changed a.seen.now.view
