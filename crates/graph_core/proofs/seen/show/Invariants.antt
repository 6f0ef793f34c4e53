use Rattle.graph_core.proofs.seen.show.Given as goal

abbrev pub ghost-becomes : goal.ghost-becomes
ghost-becomes g a = g.to
