-- The order of the list is that of its nodes.
use Rattle.std.proofs.Common.{rules}
use Rattle.item_queue.proofs.Sorting.{in_order}
use Rattle.item_queue.proofs.node.sorted.Goals as goal

pub returns-clause-order : goal.returns-clause-order
returns-clause-order c = in_order _ c.sort_unstable_by_key.ensures.sorted (λ a r f k. search rules)
