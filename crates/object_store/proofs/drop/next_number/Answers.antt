-- The queue has its least item.
use Rattle.std.proofs.Common.{◌≡◌, [], ◌∷◌, Some, None, refl, sym, ◌∙◌}
use Rattle.object_store.proofs.ItemsRead.{queue_at, queue_bare}
use Rattle.object_store.proofs.drop.next_number.Goals as goal

some_none : {A : Type 0} (a : A) → Some a ≡ None → ⊥
some_none a e = cc

pub unreachable-requires : goal.unreachable-requires
unreachable-requires c =
    let h = c.in-Some.ensures in
    some_none (h.0, h.1) (sym h.2.held.0 ∙ c.in-Err.ensures.0)

pub returns-in-Ok : goal.returns-in-Ok
returns-in-Ok c =
    let e = c.in-Ok.entry.now in
    let h = c.in-Ok.ensures in
    (c.in-Some.item.serial, (e.number, h.0 ∷ e.value ∷ []), queue_at c.args.queue.now c.in-Some.item.serial h.0 e h.1.0, refl)

pub returns-in-None : goal.returns-in-None
returns-in-None c = queue_bare c.args.queue.now c.in-None.ensures
