use Rattle.flow_net.specs.Search.{found_at}
use Rattle.flow_net.proofs.Paths.{IsOnPath}
use Rattle.flow_net.proofs.augmenting.augment.Given as goal

abbrev pub invariant-loop-at : goal.invariant-loop-at
invariant-loop-at l = IsOnPath l.net l.t l.cap l.fn.flow.items l.queue (found_at l.queue l.place).room l.at l.flow.items

abbrev pub decreases-loop-at : goal.decreases-loop-at
decreases-loop-at l = l.at
