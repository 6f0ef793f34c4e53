-- The container has the item, and one behind it, as the object has it.
use Rattle.std.proofs.Common.{sym, subst}
use Rattle.item_ring.specs.RingLists.{IsDistinct}
use Rattle.item_list.specs.Items.{serials}
use Rattle.object_store.specs.declared.near.Near.TheVariants.{Behind}
use Rattle.object_store.specs.declared.object.Object.{Object}
use Rattle.object_store.specs.Inner.{inner}
use Rattle.object_store.specs.Near.{HasThere}
use Rattle.object_store.proofs.Going.{dict_lacks, list_lacks}
use Rattle.object_store.proofs.Keyed.{keyed_serial}
use Rattle.object_store.proofs.Standing.{IsSerial, list_serial}
use Rattle.object_store.proofs.object.Object.item_behind.Goals as goal

pub unreachable-requires : goal.unreachable-requires
unreachable-requires c =
    let there = subst (λ (o : Object). HasThere c.args.item (inner o)) c.in-List.is c.requires.there in
    list_lacks c.args.item.serial c.in-List.list there.0 there.1 c.in-Err.ensures.0

pub unreachable-requires-in-Err-succ : goal.unreachable-requires-in-Err-succ
unreachable-requires-in-Err-succ c =
    let there = subst (λ (o : Object). HasThere c.args.item (inner o)) c.in-Dict.is c.requires.there in
    dict_lacks c.args.item.serial c.in-Dict.dict there.0 there.1 c.in-Err-succ.ensures.0

pub returns-in-Ok : goal.returns-in-Ok
returns-in-Ok c =
    subst (λ (o : Object). IsSerial (Behind c.args.item) (inner o) c.in-Ok.behind) (sym c.in-List.is)
    (list_serial c.in-List.list c.in-Ok.behind (Behind c.args.item) c.in-Ok.ensures.1)

pub returns-in-Ok-succ : goal.returns-in-Ok-succ
returns-in-Ok-succ c =
    subst (λ (o : Object). IsSerial (Behind c.args.item) (inner o) c.in-Ok-succ.behind) (sym c.in-Dict.is)
    (keyed_serial c.in-Dict.dict (subst (λ (o : Object). IsDistinct (serials (inner o))) c.in-Dict.is c.requires.distinct) (Behind c.args.item) c.in-Ok-succ.behind c.in-Ok-succ.ensures)
