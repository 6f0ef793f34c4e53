-- The cell that the table leads to has the value, and what is written to it is kept.
use Rattle.std.proofs.Common.{◌≡◌, min, Some, None, set, refl, sym, ap, ◌∙◌, subst, inl, inr}
use Rattle.item_pool.specs.Table.{slot_of}
use Rattle.std.specs.FinMap as map
use Rattle.item_pool.specs.declared.pool.Pool.TheInside.{Inside}
use Rattle.item_pool.specs.declared.block.Cell.{Cell}
use Rattle.item_pool.specs.CellsKept.{cell_at, with_value, live_of}
use Rattle.item_pool.specs.Contents.{Contents, contents, Holds, Lacks}
use Rattle.item_pool.proofs.PoolSteps.{live_within, write_pool, write_live}
use Rattle.item_pool.proofs.Seen.{seen_none, seen_some}
use Rattle.item_pool.proofs.pool.Pool.get_mut.Goals as goal

pub invariant_of-self-lent : goal.invariant_of-self-lent
invariant_of-self-lent g c = λ w.
    let p = c.self.inside in let s = c.args.it.serial in let i = c.in-Some.slot in
    let e : slot_of p.table s ≡ Some i = sym c.in-Some.ensures in let f = c.self.invariant.table.found s i e in
    write_pool p _ c.self.invariant s i f.0 w e f.1.1 (live_within p.cells i f.0 f.1.1) (ap (λ (k : Cell g.row.T.Denot). set p.cells i (with_value k w)) c.get_mut-cell.ensures.value) refl refl refl refl refl

pub returns-in-Some-as_mut : goal.returns-in-Some-as_mut
returns-in-Some-as_mut g c =
    let X = g.row.T.Denot in let p = c.self.inside in let s = c.args.it.serial in let i = c.in-Some.slot in
    let e : slot_of p.table s ≡ Some i = sym c.in-Some.ensures in let f = c.self.invariant.table.found s i e in let low = c.self.invariant.table.given s i e in
    let lt = live_within p.cells i f.0 f.1.1 in let k = c.get_mut-cell.result.now in
    let q : X → Inside X = λ w. record { cells = set p.cells i (with_value k w); table = p.table; first = p.first; free = p.free; live = p.live; made = p.made } in
    let cells : (w : X) → (q w).cells ≡ set p.cells i (with_value (cell_at p.cells i) w) = λ w. ap (λ (a : Cell X). set p.cells i (with_value a w)) c.get_mut-cell.ensures.value in
    let room = min p.free p.table.sure in
    let is : (w : X) → contents (live_of (q w).cells) p.made room ≡ contents (map.insert c.args.self.now.live s w) c.args.self.now.made c.args.self.now.spare =
    λ w. ap (λ l. contents l p.made room) (write_live p (q w) c.self.invariant s i f.0 w e f.1.1 lt (cells w) refl refl refl refl refl) ∙ ap (λ (o : Contents X). contents (map.insert o.live s w) o.made o.spare) c.self.view_is in (
      λ j. inl (c.in-Some-as_mut.value.ghost_name, λ w. is w j),
      record {
        writes_back = tt;
        value = subst (λ (o : Contents X). Holds o s c.in-Some-as_mut.value.now) c.self.view_is
            (seen_some p.cells (slot_of p.table) p.made c.self.invariant.table s i e ∙ sym (c.in-Some-as_mut.ensures.value ∙ ap (λ a. a.value) c.get_mut-cell.ensures.value), low.0, low.1);
      },
    )

pub returns-in-None : goal.returns-in-None
returns-in-None g c =
    let p = c.self.inside in let t = slot_of p.table in let s = c.args.it.serial in
    let e : t s ≡ None = sym c.in-None.ensures in (
      ap inr c.self.view_is,
      record { writes_back = tt; value = subst (λ (o : Contents g.row.T.Denot). Lacks o s c.why_gone.result) c.self.view_is (seen_none p.cells t p.made c.self.invariant.table s e, c.why_gone.ensures) },
    )
