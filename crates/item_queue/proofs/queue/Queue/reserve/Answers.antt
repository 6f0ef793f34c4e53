-- There is more room, and nothing else changes.
use Rattle.item_queue.proofs.Queues.{reserve_queue}
use Rattle.item_queue.proofs.queue.Queue.reserve.Goals as goal

pub invariant_of-self-then-is_err-2 : goal.invariant_of-self-then-is_err-2
invariant_of-self-then-is_err-2 g c = let k = c.reserve.ensures.kept in reserve_queue c.self.inside _ c.self.invariant k.0 k.1 k.2 c.reserve-else-is_err.ensures.kept.0 c.reserve-else-is_err.ensures.kept.1

pub invariant_of-self-else-is_err-2 : goal.invariant_of-self-else-is_err-2
invariant_of-self-else-is_err-2 g c = let k = c.reserve.ensures.kept in reserve_queue c.self.inside _ c.self.invariant k.0 k.1 k.2 c.reserve-else-is_err.ensures.kept.0 c.reserve-else-is_err.ensures.kept.1
