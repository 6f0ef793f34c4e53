use Rattle.std.proofs.Common.{◌≡◌, ◌≤◌, []}
use Rattle.leda_edge.specs.Parts.{StaysTold}
use Rattle.leda_edge.specs.Stored.{stored, StaysStored}
use Rattle.console_run.specs.Generated.{IsDrawn}
use Rattle.console_run.specs.Performing.{Worked}
use Rattle.console_run.proofs.top.work.Given as goal

abbrev pub invariant-loop-at : goal.invariant-loop-at
invariant-loop-at g l =
    Worked l.strict l.seed
    (stored (g.F.Store.files l.initial.files) (g.F.Store.faults l.initial.files))
    (g.K.Sink.held l.initial.out) l.at l.refused l.console.session
    (stored (g.F.Store.files l.files) (g.F.Store.faults l.files)) (g.K.Sink.held l.out)
    × IsDrawn l.seed l.at l.generator.number
    × (l.console.line.items ≡ [])
    × StaysTold (g.K.Sink.held l.initial.out) (g.K.Sink.held l.out)
    × (g.K.Sink.faults l.initial.out ≤ g.K.Sink.faults l.out)
    × StaysStored (stored (g.F.Store.files l.initial.files) (g.F.Store.faults l.initial.files))
    (stored (g.F.Store.files l.files) (g.F.Store.faults l.files))
