use Rattle.std.proofs.Common.{◌≡◌, not, take}
use Rattle.std.specs.List.{filter}
use Rattle.blossom_lift.specs.Contraction.{is_inner}
use Rattle.blossom_lift.specs.Passes.{marked}
use Rattle.blossom_lift.proofs.shrinking.edges_left.Given as goal

abbrev pub invariant-loop-edge : goal.invariant-loop-edge
invariant-loop-edge l = l.left ≡ filter (λ arc. not (is_inner (marked l.marks) l.net arc)) (take l.edge-index l.edges)
