use Rattle.std.proofs.Common.{ℕ, ◌<◌, ◌≢◌}
use Rattle.node_maps.specs.PrivateRow.{number_at}
use Rattle.node_maps.proofs.row.search.Given as goal

abbrev pub invariant-loop-place : goal.invariant-loop-place
invariant-loop-place l = (k : ℕ) → k < l.place → number_at l.entries k ≢ l.number
