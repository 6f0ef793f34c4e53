use Rattle.graph_core.proofs.graph.beside.show_beside.Given as goal

abbrev pub ghost-becomes : goal.ghost-becomes
ghost-becomes g a = g.to
