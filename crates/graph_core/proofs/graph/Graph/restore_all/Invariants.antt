use Rattle.graph_state.specs.Edits.{all_restored}
use Rattle.graph_core.proofs.graph.Graph.restore_all.Given as goal

abbrev pub ghost-show : goal.ghost-show
ghost-show a = all_restored a.seen.now.view
