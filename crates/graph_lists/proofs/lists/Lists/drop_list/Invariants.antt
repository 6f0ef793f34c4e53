use Rattle.graph_lists.specs.Named.{unlisted}
use Rattle.graph_lists.proofs.lists.Lists.drop_list.Given as goal

abbrev pub ghost-show_list : goal.ghost-show_list
ghost-show_list a = unlisted a.list a.seen.now.view
