use Rattle.graph_lists.specs.Named.{listed}
use Rattle.graph_lists.proofs.lists.Lists.add_list.Given as goal

abbrev pub ghost-show_list : goal.ghost-show_list
ghost-show_list a = listed a.list a.head.now a.seen.now.view
