use Rattle.std.proofs.Common.{◌≡◌, ◌++◌, take}
use Rattle.hide_restore.specs.Canon.{fronts}
use Rattle.hide_restore.proofs.canon.add_fronts.Given as goal

abbrev pub invariant-loop-dart : goal.invariant-loop-dart
invariant-loop-dart l = l.edges ≡ l.fn.edges ++ fronts (take l.dart-index l.darts)
