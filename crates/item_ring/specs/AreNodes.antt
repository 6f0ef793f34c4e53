-- Private: how `Nodes` stores its slots.
use Rattle.item_ring.specs.declared.nodes.Nodes.TheInside.{Inside}
use Rattle.item_ring.specs.Nodes.{Slots, AreNodes}

abbrev pub slots_of : Inside → Slots
slots_of a = record { blocks = a.blocks.items; len = a.len; room = a.room }

abbrev pub AreItsNodes : Inside → Type 0
AreItsNodes a = AreNodes (slots_of a)
