use Rattle.graph_lists.specs.Named.{unlinked}
use Rattle.graph_lists.proofs.lists.Lists.unlink.Given as goal

abbrev pub ghost-show : goal.ghost-show
ghost-show a = unlinked a.x a.seen.now.view
