use Rattle.std.specs.Prelude.{false}
use Rattle.graph_lists.specs.Named.{marked}
use Rattle.graph_lists.proofs.lists.Lists.hide.Given as goal

abbrev pub ghost-show_mark : goal.ghost-show_mark
ghost-show_mark a = marked false a.x a.seen.now.view
