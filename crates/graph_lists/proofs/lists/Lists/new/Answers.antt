-- Nothing is there.
use Rattle.std.proofs.Common.{ℕ, List, ap, ◌∙◌}
use Rattle.std.specs.FinMap as fin
use Rattle.std.specs.Ordering.{nat_cmp}
use Rattle.graph_lists.proofs.lists.Lists.new.Goals as goal
use Rattle.std.specs.FinMap.{len-empty}

pub returns-clause-none : goal.returns-clause-none
returns-clause-none c = (ap fin.len c.new.ensures.rings ∙ len-empty nat_cmp (List ℕ), ap fin.len c.new.ensures.tags ∙ len-empty nat_cmp ℕ)
