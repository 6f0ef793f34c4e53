use Rattle.std.proofs.Common.{◌≡◌, map, take}
use Rattle.blossom_lift.specs.Passes.{read_ends}
use Rattle.blossom_lift.proofs.shrinking.image_arcs.Given as goal

abbrev pub invariant-loop-from : goal.invariant-loop-from
invariant-loop-from l = l.small ≡ map (read_ends l.images) (take l.from-index l.arcs)
