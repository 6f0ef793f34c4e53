use Rattle.std.specs.Prelude.{true}
use Rattle.graph_lists.specs.Named.{marked}
use Rattle.graph_lists.proofs.lists.Lists.show_behind.Given as goal

abbrev pub ghost-show_mark : goal.ghost-show_mark
ghost-show_mark a = marked true a.x a.seen.now.view
