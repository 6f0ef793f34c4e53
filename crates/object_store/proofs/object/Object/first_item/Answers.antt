-- The container has its first item, as the object has it.
use Rattle.std.proofs.Common.{◌≡◌, sym, subst}
use Rattle.item_ring.specs.RingLists.{IsDistinct, front}
use Rattle.item_list.specs.Items.{serials, serial_of}
use Rattle.object_store.specs.declared.near.Near.TheVariants.{First}
use Rattle.object_store.specs.declared.object.Object.{Object}
use Rattle.object_store.specs.Inner.{inner}
use Rattle.object_store.proofs.Keyed.{keyed_serial}
use Rattle.object_store.proofs.Standing.{list_serial}
use Rattle.object_store.proofs.object.Object.first_item.Goals as goal

pub returns-in-List : goal.returns-in-List
returns-in-List c =
    subst (λ (o : Object). serial_of c.first.result ≡ front (serials (inner o))) (sym c.in-List.is)
    (list_serial c.in-List.list c.first.result First c.first.ensures)

pub returns-in-Dict : goal.returns-in-Dict
returns-in-Dict c =
    subst (λ (o : Object). serial_of c.min.result ≡ front (serials (inner o))) (sym c.in-Dict.is)
    (keyed_serial c.in-Dict.dict (subst (λ (o : Object). IsDistinct (serials (inner o))) c.in-Dict.is c.requires.distinct) First c.min.result c.min.ensures)
