-- The cell that the table leads to has the value.
use Rattle.std.proofs.Common.{◌≡◌, Some, None, sym, ap, ◌∙◌, subst}
use Rattle.item_pool.specs.Table.{slot_of}
use Rattle.item_pool.specs.Contents.{Contents, Holds, Lacks}
use Rattle.item_pool.proofs.Seen.{seen_none, seen_some}
use Rattle.item_pool.proofs.pool.Pool.get.Goals as goal

pub returns-in-Some-as_ref : goal.returns-in-Some-as_ref
returns-in-Some-as_ref g c =
    let p = c.self.inside in let t = slot_of p.table in let s = c.args.it.serial in let f = c.in-Some.ensures in
    let e : t s ≡ Some f.0 = f.1 in let low = c.self.invariant.table.given s f.0 e in
    let x = c.in-Some-as_ref.value.now in
    subst (λ (o : Contents g.row.T.Denot). Holds o s x) c.self.view_is
    (seen_some p.cells t p.made c.self.invariant.table s f.0 e ∙ sym (c.in-Some-as_ref.ensures.value ∙ ap (λ k. k.value) f.2), low.0, low.1)

pub returns-in-None : goal.returns-in-None
returns-in-None g c =
    let p = c.self.inside in let t = slot_of p.table in let s = c.args.it.serial in
    let e : t s ≡ None = c.in-None.ensures in
    subst (λ (o : Contents g.row.T.Denot). Lacks o s c.why_gone.result) c.self.view_is (seen_none p.cells t p.made c.self.invariant.table s e, c.why_gone.ensures)
