use Rattle.std.proofs.Common.{◌≡◌, Bool, List, length}
use Rattle.sp_search.specs.Finding.{IsFinding}
use Rattle.sp_search.specs.Lows.{HasMet}
use Rattle.sp_search.proofs.lows.meet.Given as goal

abbrev pub invariant-loop-arc : goal.invariant-loop-arc
invariant-loop-arc l = (length l.found.marks.items ≡ l.net.n)
    × ((opened : List Bool) → IsFinding l.net opened l.fn.found.queue.items l.fn.found.marks.items
    → HasMet l.net opened l.number l.cycle l.arc-index l.fn.found.queue.items l.fn.found.marks.items l.found.queue.items l.found.marks.items)
