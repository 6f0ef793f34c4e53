use Rattle.graph_state.specs.Edits.{all_reversed}
use Rattle.graph_core.proofs.graph.Graph.rev_all.Given as goal

abbrev pub ghost-show : goal.ghost-show
ghost-show a = all_reversed a.seen.now.view
