use Rattle.sp_search.proofs.Falls.{IsInRound}
use Rattle.sp_search.proofs.tags.round.Given as goal

abbrev pub invariant-loop-arc : goal.invariant-loop-arc
invariant-loop-arc l = IsInRound l.net l.cost l.shut l.arc l.falls l.fn.tags.items l.tags.items
