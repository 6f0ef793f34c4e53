-- The list has its first item.
use Rattle.std.proofs.Common.{◌≡◌, [], ◌∷◌, Some, None, refl, sym, ap, ◌∙◌, map}
use Rattle.object_store.specs.Inner.{list_cell}
use Rattle.object_store.proofs.ItemsRead.{first_there, first_none, list_at}
use Rattle.object_store.proofs.drop.first_number.Goals as goal

some_none : {A : Type 0} (a : A) → Some a ≡ None → ⊥
some_none a e = cc

pub unreachable-requires : goal.unreachable-requires
unreachable-requires c =
    let w = first_there c.args.list.now.pairs c.in-Some.item.serial c.in-Some.ensures in
    some_none w.0 (sym w.1 ∙ c.in-Err.ensures.0)

pub returns-in-Ok : goal.returns-in-Ok
returns-in-Ok c =
    let e = c.in-Ok.entry.now in
    (c.in-Some.item.serial, (e.number, e.value ∷ []), list_at c.args.list.now c.in-Some.item.serial e c.in-Ok.ensures, refl)

pub returns-in-None : goal.returns-in-None
returns-in-None c = ap (map list_cell) (first_none c.args.list.now.pairs c.in-None.ensures)
