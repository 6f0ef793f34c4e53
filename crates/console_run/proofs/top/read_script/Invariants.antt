use Rattle.std.proofs.Common.{◌≡◌, ◌-◌, ◌≤◌, length}
use Rattle.leda_edge.specs.Parts.{StaysTold}
use Rattle.leda_edge.specs.Stored.{stored, StaysStored}
use Rattle.console_run.specs.Progress.{Pumped}
use Rattle.console_run.proofs.top.read_script.Given as goal

abbrev pub invariant-loop-taken : goal.invariant-loop-taken
invariant-loop-taken g l =
    (l.taken ≤ 1073741824)
    × Pumped l.strict (g.S.Source.left l.initial.script)
    (stored (g.F.Store.files l.initial.files) (g.F.Store.faults l.initial.files))
    (g.K.Sink.held l.initial.out)
    (g.S.Source.left l.script) (stored (g.F.Store.files l.files) (g.F.Store.faults l.files))
    (g.K.Sink.held l.out) l.taken l.console.session l.console.line.items
    × StaysTold (g.S.Source.left l.initial.script) (g.S.Source.left l.script)
    × StaysTold (g.K.Sink.held l.initial.out) (g.K.Sink.held l.out)
    × (g.S.Source.faults l.initial.script ≤ g.S.Source.faults l.script)
    × (g.K.Sink.faults l.initial.out ≤ g.K.Sink.faults l.out)
    × StaysStored (stored (g.F.Store.files l.initial.files) (g.F.Store.faults l.initial.files))
    (stored (g.F.Store.files l.files) (g.F.Store.faults l.files))
    × (length l.room ≡ length l.initial.room)

abbrev pub decreases-loop-taken : goal.decreases-loop-taken
decreases-loop-taken g l = 1073741824 - l.taken
