use Rattle.graph_lists.specs.Named.{nothing_named}
use Rattle.graph_lists.proofs.lists.Lists.new.Given as goal

abbrev pub ghost-nothing : goal.ghost-nothing
ghost-nothing a = nothing_named
