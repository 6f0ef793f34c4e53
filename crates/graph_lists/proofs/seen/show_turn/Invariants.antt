use Rattle.graph_lists.proofs.seen.show_turn.Given as goal

abbrev pub ghost-becomes : goal.ghost-becomes
ghost-becomes g a = g.to
