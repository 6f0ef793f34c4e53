-- No place gone by has the name.
use Rattle.std.proofs.Common.{◌≡◌, ℕ, ◌<◌, ◌≢◌, Some, slice_get}
use Rattle.object_store.specs.declared.slots.Named.{Named}
use Rattle.object_store.proofs.slots.slot_of.Given as goal

abbrev pub invariant-loop-slot : goal.invariant-loop-slot
invariant-loop-slot l = (k : ℕ) (n : Named) → k < l.slot → slice_get l.slots k ≡ Some (Some n) → n.name ≢ l.name
