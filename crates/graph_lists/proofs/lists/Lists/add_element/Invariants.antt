use Rattle.graph_lists.specs.Named.{hooked}
use Rattle.graph_lists.proofs.lists.Lists.add_element.Given as goal

abbrev pub ghost-show_element : goal.ghost-show_element
ghost-show_element a = hooked a.x a.hook.now a.seen.now.view
