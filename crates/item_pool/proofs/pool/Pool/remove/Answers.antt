-- The cell is the first of the chain from then on.
use Rattle.std.proofs.Common.{◌≡◌, ◌+◌, ◌-◌, ◌≤◌, min, Some, None, refl, sym, ◌∙◌, subst, arith}
use Rattle.item_pool.specs.Table.{slot_of}
use Rattle.item_pool.specs.declared.pool.Pool.TheInside.{Inside}
use Rattle.item_pool.specs.CellsKept.{live_of}
use Rattle.item_pool.specs.Contents.{Contents, contents, Lacks, Removes}
use Rattle.item_pool.proofs.PoolSteps.{live_within, some_live, remove_pool, remove_live}
use Rattle.item_pool.proofs.Seen.{seen_none, seen_some}
use Rattle.item_pool.proofs.pool.Pool.remove.Goals as goal

pub overflow_sub-self : goal.overflow_sub-self
overflow_sub-self g c = some_live c.self.inside c.self.invariant c.args.it.serial c.in-Some.slot (sym c.in-Some.ensures)

pub invariant_of-self : goal.invariant_of-self
invariant_of-self g c =
    let p = c.self.inside in let s = c.args.it.serial in let i = c.in-Some.slot in let x = c.vacate-value.result in
    let e : slot_of p.table s ≡ Some i = sym c.in-Some.ensures in
    let value = c.vacate-value.ensures.value in
    remove_pool p _ c.self.invariant s i x e value (live_within p.cells i x value) c.vacate-value.ensures.cells refl refl refl refl c.remove.ensures.same.0
    c.remove.ensures.entry.here c.remove.ensures.entry.others

pub returns-in-Some : goal.returns-in-Some
returns-in-Some g c =
    let X = g.row.T.Denot in let p = c.self.inside in let s = c.args.it.serial in let i = c.in-Some.slot in let x = c.vacate-value.result in
    let e : slot_of p.table s ≡ Some i = sym c.in-Some.ensures in let low = c.self.invariant.table.given s i e in
    let value = c.vacate-value.ensures.value in
    let q : Inside X = record { cells = c.vacate-value.new.cells; table = c.remove.new.self; first = i; free = p.free + 1; live = p.live - 1; made = p.made } in
    let live = remove_live p q c.self.invariant s i x e value (live_within p.cells i x value) c.vacate-value.ensures.cells refl refl refl refl c.remove.ensures.same.0
    c.remove.ensures.entry.here c.remove.ensures.entry.others in
    let more : min p.free p.table.sure ≤ min q.free q.table.sure = omega (arith, c.remove.ensures.same.1) in
    let after : Contents X = contents (live_of q.cells) p.made (min q.free q.table.sure) in
    subst (λ (o : Contents X). Removes o after s x) c.self.view_is (record {
      held = (seen_some p.cells (slot_of p.table) p.made c.self.invariant.table s i e ∙ value, low.0, low.1);
      live = live;
      made = refl;
      spare = more;
    })

pub returns-in-None : goal.returns-in-None
returns-in-None g c =
    let p = c.self.inside in let t = slot_of p.table in let s = c.args.it.serial in
    let e : t s ≡ None = sym c.in-None.ensures in
    (subst (λ (o : Contents g.row.T.Denot). Lacks o s c.why_gone.result) c.self.view_is (seen_none p.cells t p.made c.self.invariant.table s e, c.why_gone.ensures), refl)
