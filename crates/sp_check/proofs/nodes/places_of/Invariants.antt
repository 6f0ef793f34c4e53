use Rattle.sp_check.specs.Passes.{HavePlaces}
use Rattle.sp_check.proofs.nodes.places_of.Given as goal

abbrev pub invariant-loop-place : goal.invariant-loop-place
invariant-loop-place l = HavePlaces l.n l.nodes l.place l.places.items
