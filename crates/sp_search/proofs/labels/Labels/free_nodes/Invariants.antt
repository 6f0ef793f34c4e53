use Rattle.std.proofs.Common.{◌≡◌}
use Rattle.std.specs.List.{filter, range_with_len}
use Rattle.sp_search.specs.Labels.{label_at, is_free}
use Rattle.sp_search.proofs.labels.Labels.free_nodes.Given as goal

abbrev pub invariant-loop-node : goal.invariant-loop-node
invariant-loop-node l = l.nodes ≡ filter (λ v. is_free (label_at l.self v)) (range_with_len 0 l.node)
