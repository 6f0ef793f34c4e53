-- The table has the live serials alone.
use Rattle.std.proofs.Common.{◌≡◌, Some, None, refl, sym, ◌∙◌, subst}
use Rattle.item_pool.specs.Table.{slot_of}
use Rattle.item_pool.specs.Contents.{HasLive, Lacks}
use Rattle.item_pool.proofs.Seen.{seen_none, seen_some}
use Rattle.item_pool.proofs.pool.Pool.item.Goals as goal

pub returns-in-Some : goal.returns-in-Some
returns-in-Some g c =
    let p = c.self.inside in let t = slot_of p.table in let s = c.args.serial in let i = c.in-Some.slot in
    let e : t s ≡ Some i = sym c.in-Some.ensures in
    let f = c.self.invariant.table.found s i e in
    let low = c.self.invariant.table.given s i e in
    (refl, subst (λ q. HasLive q s) c.self.view_is (f.0, (seen_some p.cells t p.made c.self.invariant.table s i e ∙ f.1.1, low.0, low.1)))

pub returns-in-None : goal.returns-in-None
returns-in-None g c =
    let p = c.self.inside in let t = slot_of p.table in let s = c.args.serial in
    let e : t s ≡ None = sym c.in-None.ensures in
    subst (λ q. Lacks q s c.why_gone.result) c.self.view_is (seen_none p.cells t p.made c.self.invariant.table s e, c.why_gone.ensures)
