-- The container has the item there, and the object its number.
use Rattle.std.proofs.Common.{sym, subst}
use Rattle.item_ring.specs.RingLists.{IsDistinct}
use Rattle.item_list.specs.Items.{serials}
use Rattle.object_store.specs.declared.object.Object.{Object}
use Rattle.object_store.specs.Inner.{inner}
use Rattle.object_store.specs.Near.{CanFind}
use Rattle.object_store.proofs.Keyed.{keyed_serial}
use Rattle.object_store.proofs.Ordered.{least_there}
use Rattle.object_store.proofs.Standing.{IsSerial, list_serial, number_there}
use Rattle.object_store.proofs.object.Object.number.Goals as goal

pub item_in-requires : goal.item_in-requires
item_in-requires c = subst (λ (o : Object). CanFind c.args.near o) c.in-List.is c.requires

pub item_by_key-requires : goal.item_by_key-requires
item_by_key-requires c = subst (λ (o : Object). CanFind c.args.near o) c.in-Dict.is c.requires

pub returns-in-List : goal.returns-in-List
returns-in-List c =
    number_there c.args.self.now c.item_in.result c.number_of.result c.requires.distinct c.number_of.ensures c.args.near
    (subst (λ (o : Object). IsSerial c.args.near (inner o) c.item_in.result) (sym c.in-List.is) (list_serial c.in-List.list c.item_in.result c.args.near c.item_in.ensures))

pub returns-in-Dict : goal.returns-in-Dict
returns-in-Dict c =
    number_there c.args.self.now c.item_by_key.result c.number_of-in-Dict.result c.requires.distinct c.number_of-in-Dict.ensures c.args.near
    (subst (λ (o : Object). IsSerial c.args.near (inner o) c.item_by_key.result) (sym c.in-Dict.is)
    (keyed_serial c.in-Dict.dict (subst (λ (o : Object). IsDistinct (serials (inner o))) c.in-Dict.is c.requires.distinct) c.args.near c.item_by_key.result c.item_by_key.ensures))

pub returns-in-Queue : goal.returns-in-Queue
returns-in-Queue c =
    least_there c.args.self.now c.in-Queue.queue c.in-Queue.is c.args.near c.requires c.find_min.result c.number_of-in-Queue.result c.number_of-in-Queue.ensures c.find_min.ensures
