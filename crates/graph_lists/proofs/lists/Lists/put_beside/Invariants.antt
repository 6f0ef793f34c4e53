use Rattle.graph_lists.specs.Named.{put_beside}
use Rattle.graph_lists.proofs.lists.Lists.put_beside.Given as goal

abbrev pub ghost-show_beside : goal.ghost-show_beside
ghost-show_beside a = put_beside a.side a.beside a.x a.seen.now.view
