use Rattle.std.proofs.Common.{◌≡◌, map, take}
use Rattle.console_state.proofs.names.numbers.Given as goal

abbrev pub invariant-loop-item : goal.invariant-loop-item
invariant-loop-item g l = l.row ≡ map g.T.Numbered.number (take l.item-index l.items)
