use Rattle.graph_lists.specs.Turned.{turned}
use Rattle.graph_lists.proofs.lists.Lists.turn.Given as goal

abbrev pub ghost-show_turn : goal.ghost-show_turn
ghost-show_turn a = turned a.directed a.seen.now.view
