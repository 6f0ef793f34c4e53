use Rattle.hide_restore.specs.Net.{HavePlaces}
use Rattle.hide_restore.proofs.places.table_of.Given as goal

abbrev pub invariant-loop-place : goal.invariant-loop-place
invariant-loop-place l = HavePlaces l.numbers l.most l.place l.table.items
