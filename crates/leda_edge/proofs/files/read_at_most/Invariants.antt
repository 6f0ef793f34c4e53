use Rattle.std.proofs.Common.{◌+◌, ◌-◌, ◌≤◌, vec_len}
use Rattle.leda_edge.proofs.files.read_at_most.Given as goal

abbrev pub invariant-loop-chunk : goal.invariant-loop-chunk
invariant-loop-chunk g l = vec_len l.bytes ≤ l.max

-- each turn reads at least one byte
abbrev pub decreases-loop-chunk : goal.decreases-loop-chunk
decreases-loop-chunk g l = l.max + 1 - vec_len l.bytes
