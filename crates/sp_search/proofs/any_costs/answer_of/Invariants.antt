use Rattle.std.proofs.Common.{not}
use Rattle.std.specs.List.{count_by}
use Rattle.sp_search.specs.Lows.{AreLow}
use Rattle.sp_search.proofs.any_costs.answer_of.Given as goal

abbrev pub invariant-loop-lows : goal.invariant-loop-lows
invariant-loop-lows l = AreLow l.net l.s l.cost l.opened.items l.lows.found.queue.items l.lows.found.marks.items l.lows.seeds

abbrev pub decreases-loop-lows : goal.decreases-loop-lows
decreases-loop-lows l = count_by not l.lows.found.marks.items
