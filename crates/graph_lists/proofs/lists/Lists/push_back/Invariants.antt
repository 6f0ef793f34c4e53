use Rattle.graph_lists.specs.Named.{pushed}
use Rattle.graph_lists.proofs.lists.Lists.push_back.Given as goal

abbrev pub ghost-show : goal.ghost-show
ghost-show a = pushed a.list a.x a.seen.now.view
