-- Private: how `Rings` stores its lists.
use Rattle.item_ring.specs.declared.rings.Rings.TheInside.{Inside}
use Rattle.item_ring.specs.RingLists.{RingLists}
use Rattle.item_ring.specs.AreRings.{AreRings, IsFree, IsStocked}

abbrev pub lists_of : Inside → RingLists
lists_of a =
    record {
      rings = a.seen.view.rings;
      loose = a.seen.view.loose;
      tags = a.seen.view.tags;
      spare_heads = a.spare_heads;
      spare_members = a.spare_members;
    }

pub record RingsHold (a : Inside) : Type 0 where
  pub rings : AreRings a.nodes a.seen.view
  pub free : IsFree a.nodes a.first_free a.free a.seen.view.free
  pub stock : IsStocked a.nodes a.seen.view a.free a.spare_heads a.spare_members
