-- The list has the item.
use Rattle.std.proofs.Common.{subst}
use Rattle.object_store.specs.declared.near.Near.{Near}
use Rattle.object_store.specs.declared.object.Object.TheVariants as held
use Rattle.object_store.specs.Near.{CanFind}
use Rattle.object_store.proofs.Going.{list_lacks}
use Rattle.object_store.proofs.near.item_in.Goals as goal

pub unreachable-requires : goal.unreachable-requires
unreachable-requires c =
    let l = c.args.list.now in
    let h = subst (λ (near : Near). CanFind near (held.List l)) c.in-Behind.is c.requires in
    list_lacks c.in-Behind.item.serial l h.placed.0 h.placed.1 c.in-Err.ensures.0

pub unreachable-requires-in-Err-pred : goal.unreachable-requires-in-Err-pred
unreachable-requires-in-Err-pred c =
    let l = c.args.list.now in
    let h = subst (λ (near : Near). CanFind near (held.List l)) c.in-Before.is c.requires in
    list_lacks c.in-Before.item.serial l h.placed.0 h.placed.1 c.in-Err-pred.ensures.0

pub unreachable-requires-in-Err-cyclic_succ : goal.unreachable-requires-in-Err-cyclic_succ
unreachable-requires-in-Err-cyclic_succ c =
    let l = c.args.list.now in
    let h = subst (λ (near : Near). CanFind near (held.List l)) c.in-RoundBehind.is c.requires in
    list_lacks c.in-RoundBehind.item.serial l h.placed.0 h.placed.1 c.in-Err-cyclic_succ.ensures.0

pub unreachable-requires-in-Err-cyclic_pred : goal.unreachable-requires-in-Err-cyclic_pred
unreachable-requires-in-Err-cyclic_pred c =
    let l = c.args.list.now in
    let h = subst (λ (near : Near). CanFind near (held.List l)) c.in-RoundBefore.is c.requires in
    list_lacks c.in-RoundBefore.item.serial l h.placed.0 h.placed.1 c.in-Err-cyclic_pred.ensures.0
