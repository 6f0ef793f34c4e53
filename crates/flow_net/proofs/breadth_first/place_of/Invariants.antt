use Rattle.std.proofs.Common.{◌≡◌, ℕ, ◌<◌}
use Rattle.flow_net.specs.Search.{found_at}
use Rattle.flow_net.proofs.breadth_first.place_of.Given as goal

abbrev pub invariant-loop-place : goal.invariant-loop-place
invariant-loop-place l = (k : ℕ) → k < l.place → (found_at l.queue k).node ≡ l.node → ⊥
