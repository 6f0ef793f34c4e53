-- There are more slots, and no cell is another.
use Rattle.std.proofs.Common.{◌≡◌, ℕ, ◌-◌, ◌≤◌}
use Rattle.item_ring.specs.AreRings.{most_slots}
use Rattle.item_ring.specs.Nodes.{cell_at}
use Rattle.item_ring.proofs.rings.grow_to.Given as goal

pub record HasGrown (room first_room used first_used : ℕ) : Type 0 where
  pub more : first_room ≤ room
  pub small : first_room ≤ most_slots → room ≤ most_slots
  pub len : used ≡ first_used

abbrev pub invariant-loop-alloc : goal.invariant-loop-alloc
invariant-loop-alloc l = HasGrown l.nodes.room l.initial.nodes.room l.nodes.len l.initial.nodes.len × ((k : ℕ) → cell_at l.nodes k ≡ cell_at l.initial.nodes k)

abbrev pub decreases-loop-alloc : goal.decreases-loop-alloc
decreases-loop-alloc l = l.slots - l.nodes.room
