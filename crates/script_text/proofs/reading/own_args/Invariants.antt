use Rattle.std.proofs.Common.{◌≡◌, map, take}
use Rattle.script_text.specs.Borrowed.{arg_seen}
use Rattle.script_text.proofs.reading.own_args.Given as goal

abbrev pub invariant-loop-arg : goal.invariant-loop-arg
invariant-loop-arg l = (l.owned.items ≡ map arg_seen (take l.arg-index l.args)) ×
    (l.owned.capacity ≡ 8)
