use Rattle.std.proofs.Common.{ℕ, ◌-◌, ◌≤◌, List, ◌++◌, length, take}
use Rattle.leda_edge.specs.Parts.{StaysTold}
use Rattle.leda_edge.specs.Stored.{Stored, stored, StaysStored}
use Rattle.console_run.specs.Answers.{Known}
use Rattle.console_run.specs.Progress.{Progress}
use Rattle.console_run.proofs.console.Console.feed.Given as goal

abbrev pub invariant-loop-end : goal.invariant-loop-end
invariant-loop-end g l =
    (l.at ≤ length l.piece)
    × ((held : Known) (before : Stored) (taken : List ℕ)
    → Progress l.strict held before taken (g.K.Sink.held l.initial.out)
    (stored (g.F.Store.files l.initial.files) (g.F.Store.faults l.initial.files))
    l.initial.self.session l.initial.self.line.items
    → Progress l.strict held before (taken ++ take l.at l.piece)
    (g.K.Sink.held l.out)
    (stored (g.F.Store.files l.files) (g.F.Store.faults l.files)) l.self.session
    l.self.line.items)
    × StaysTold (g.K.Sink.held l.initial.out) (g.K.Sink.held l.out)
    × (g.K.Sink.faults l.initial.out ≤ g.K.Sink.faults l.out)
    × StaysStored (stored (g.F.Store.files l.initial.files) (g.F.Store.faults l.initial.files))
    (stored (g.F.Store.files l.files) (g.F.Store.faults l.files))

abbrev pub decreases-loop-end : goal.decreases-loop-end
decreases-loop-end g l = length l.piece - l.at
