use Rattle.std.proofs.Common.{◌≡◌, map, take}
use Rattle.console_state.proofs.names.names.Given as goal

abbrev pub invariant-loop-item : goal.invariant-loop-item
invariant-loop-item g l = l.row ≡ map g.T.Numbered.name (take l.item-index l.items)
