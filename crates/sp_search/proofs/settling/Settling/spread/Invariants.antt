use Rattle.std.proofs.Common.{◌≡◌}
use Rattle.sp_search.specs.Settling.{HaveFallen}
use Rattle.sp_search.proofs.settling.Settling.spread.Given as goal

abbrev pub invariant-loop-entry : goal.invariant-loop-entry
invariant-loop-entry l = (l.self.settled.items ≡ l.fn.self.settled.items)
    × HaveFallen l.row l.cost l.dist l.entry-index l.fn.self.labels l.fn.self.preds.items l.self.labels l.self.preds.items
