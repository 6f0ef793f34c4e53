use Rattle.graph_core.proofs.seen.begin.Given as goal

abbrev pub ghost-nothing : goal.ghost-nothing
ghost-nothing g a = g.first
