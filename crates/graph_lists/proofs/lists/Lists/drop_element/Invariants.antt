use Rattle.graph_lists.specs.Named.{unhooked}
use Rattle.graph_lists.proofs.lists.Lists.drop_element.Given as goal

abbrev pub ghost-show : goal.ghost-show
ghost-show a = unhooked a.x a.seen.now.view
