use Rattle.std.proofs.Common.{length}
use Rattle.std.specs.List.{count_by}
use Rattle.sp_search.specs.Labels.{is_free}
use Rattle.sp_search.specs.Settling.{HaveSpread, IsSettling}
use Rattle.sp_search.proofs.settling.Settling.run.Given as goal

abbrev pub invariant-loop-least : goal.invariant-loop-least
invariant-loop-least l = IsSettling l.net l.s l.cost l.self.settled.items l.self.labels l.self.preds.items
    × HaveSpread l.net l.cost l.self.settled.items l.self.labels (length l.self.settled.items)

abbrev pub decreases-loop-least : goal.decreases-loop-least
decreases-loop-least l = count_by is_free l.self.labels
