use Rattle.sp_search.proofs.Tallies.{IsTelling}
use Rattle.sp_search.proofs.telling.finite_of.Given as goal

abbrev pub invariant-loop-found : goal.invariant-loop-found
invariant-loop-found l = IsTelling l.cost l.queue l.found-index l.finite.items
