use Rattle.std.proofs.Common.{◌≡◌, ◌≤◌, length}
use Rattle.leda_base.specs.Bytes.{trimmed}
use Rattle.leda_base.proofs.bytes.trimmed.Given as goal

abbrev pub invariant-loop-rest : goal.invariant-loop-rest
invariant-loop-rest l = (trimmed l.rest ≡ trimmed l.bytes) × (length l.rest ≤ length l.bytes)

abbrev pub decreases-loop-rest : goal.decreases-loop-rest
decreases-loop-rest l = length l.rest
