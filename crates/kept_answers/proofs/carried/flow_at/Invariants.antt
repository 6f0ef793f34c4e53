use Rattle.std.proofs.Common.{◌≡◌, map, take}
use Rattle.graph_defs.specs.Sum.{at}
use Rattle.kept_answers.proofs.carried.flow_at.Given as goal

abbrev pub invariant-loop-place : goal.invariant-loop-place
invariant-loop-place l = l.row ≡ map (at l.flow) (take l.place-index l.places)
