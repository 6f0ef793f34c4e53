-- The dictionary has the item, and such a place.
use Rattle.std.proofs.Common.{subst}
use Rattle.object_store.specs.declared.near.Near.{Near}
use Rattle.object_store.specs.declared.object.Object.TheVariants as held
use Rattle.object_store.specs.Near.{CanFind}
use Rattle.object_store.proofs.Going.{dict_lacks}
use Rattle.object_store.proofs.near.item_by_key.Goals as goal

pub unreachable-requires : goal.unreachable-requires
unreachable-requires c =
    let d = c.args.dict.now in
    let h = subst (λ (near : Near). CanFind near (held.Dict d)) c.in-Behind.is c.requires in
    dict_lacks c.in-Behind.item.serial d h.placed.0 h.placed.1 c.in-Err.ensures.0

pub unreachable-requires-in-Err-pred : goal.unreachable-requires-in-Err-pred
unreachable-requires-in-Err-pred c =
    let d = c.args.dict.now in
    let h = subst (λ (near : Near). CanFind near (held.Dict d)) c.in-Before.is c.requires in
    dict_lacks c.in-Before.item.serial d h.placed.0 h.placed.1 c.in-Err-pred.ensures.0
