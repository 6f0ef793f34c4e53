use Rattle.std.proofs.Common.{◌+◌, ◌-◌, not, length}
use Rattle.std.specs.List.{count_by}
use Rattle.sp_search.specs.Finding.{IsUnderWay}
use Rattle.sp_search.proofs.finding.Finding.spread.Given as goal

abbrev pub invariant-loop-head : goal.invariant-loop-head
invariant-loop-head l = IsUnderWay l.net l.opened l.fn.self.queue.items l.fn.self.marks.items l.head l.self.queue.items l.self.marks.items

abbrev pub decreases-loop-head : goal.decreases-loop-head
decreases-loop-head l = count_by not l.self.marks.items + length l.self.queue.items - l.head
