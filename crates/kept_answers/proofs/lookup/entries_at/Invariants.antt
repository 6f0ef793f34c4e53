use Rattle.std.proofs.Common.{◌≡◌, take}
use Rattle.kept_answers.specs.Kept.{entries_at}
use Rattle.kept_answers.proofs.lookup.entries_at.Given as goal

abbrev pub invariant-loop-place : goal.invariant-loop-place
invariant-loop-place l = l.row ≡ entries_at l.entries (take l.place-index l.places)
