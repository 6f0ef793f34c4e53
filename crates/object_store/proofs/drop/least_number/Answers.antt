-- The dictionary has the item of its least key.
use Rattle.std.proofs.Common.{[], ◌∷◌, refl}
use Rattle.object_store.proofs.ItemsRead.{dict_at, dict_bare}
use Rattle.object_store.proofs.drop.least_number.Goals as goal

pub unreachable-requires : goal.unreachable-requires
unreachable-requires c =
    let h = c.in-Some.ensures in
    c.in-Err.ensures.0 h.0 h.1.0.0 h.1.0.1

pub returns-in-Ok : goal.returns-in-Ok
returns-in-Ok c =
    let e = c.in-Ok.entry.now in
    let h = c.in-Ok.ensures in
    (c.in-Some.item.serial, (e.number, h.0 ∷ e.value ∷ []), dict_at c.args.dict.now h.0 c.in-Some.item.serial e c.requires h.1, refl)

pub returns-in-None : goal.returns-in-None
returns-in-None c = dict_bare c.args.dict.now c.in-None.ensures
