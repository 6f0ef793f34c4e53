-- So many of the places gone by aren't free.
use Rattle.std.proofs.Common.{◌≡◌, ◌≤◌, take}
use Rattle.object_store.specs.Slots.{taken}
use Rattle.object_store.proofs.slots.count.Given as goal

abbrev pub invariant-loop-place : goal.invariant-loop-place
invariant-loop-place l = (l.count ≡ taken (take l.place-index l.slots)) × (l.count ≤ l.place-index)
