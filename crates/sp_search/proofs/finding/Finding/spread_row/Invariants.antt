use Rattle.sp_search.specs.Finding.{HasSpread}
use Rattle.sp_search.proofs.finding.Finding.spread_row.Given as goal

abbrev pub invariant-loop-entry : goal.invariant-loop-entry
invariant-loop-entry l = HasSpread l.row l.opened l.head l.entry-index l.fn.self.queue.items l.fn.self.marks.items l.self.queue.items l.self.marks.items
