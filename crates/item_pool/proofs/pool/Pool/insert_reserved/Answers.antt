-- The first cell of the chain gets the value under the next serial.
use Rattle.std.proofs.Common.{◌+◌, ◌-◌, ◌<◌, ◌≤◌, min, refl, sym, subst, arith}
use Rattle.item_pool.specs.declared.pool.TheConstants.{MOST_SERIALS}
use Rattle.item_pool.specs.Table.{slot_of}
use Rattle.item_pool.specs.Contents.{Contents, contents, Inserts}
use Rattle.item_pool.specs.CellsKept.{live_of}
use Rattle.item_pool.specs.declared.pool.Item.{Item}
use Rattle.item_pool.specs.declared.pool.Pool.TheInside.{Inside}
use Rattle.item_pool.proofs.PoolSteps.{insert_pool, insert_live}
use Rattle.item_pool.proofs.Seen.{seen_new}
use Rattle.item_pool.proofs.pool.Pool.insert_reserved.Goals as goal

pub invariant_of-self : goal.invariant_of-self
invariant_of-self g c =
    let p = c.self.inside in let m = p.made + 1 in
    let more : 0 < min p.free p.table.sure = subst (λ (q : Contents g.row.T.Denot). 0 < q.spare) (sym c.self.view_is) c.requires.spare in
    let room : p.made < MOST_SERIALS = subst (λ (q : Contents g.row.T.Denot). q.made < MOST_SERIALS) (sym c.self.view_is) c.requires.made in
    insert_pool p _ c.self.invariant c.args.value (omega arith) room c.occupy-next.ensures.cells c.occupy-next.ensures.link refl refl refl c.insert.ensures.next c.insert.ensures.entry

pub returns : goal.returns
returns g c =
    let p = c.self.inside in let m = p.made + 1 in
    let more : 0 < min p.free p.table.sure = subst (λ (q : Contents g.row.T.Denot). 0 < q.spare) (sym c.self.view_is) c.requires.spare in
    let room : p.made < MOST_SERIALS = subst (λ (q : Contents g.row.T.Denot). q.made < MOST_SERIALS) (sym c.self.view_is) c.requires.made in
    let q : Inside g.row.T.Denot = record { cells = c.occupy-next.new.cells; table = c.insert.new.self; first = c.occupy-next.result; free = p.free - 1; live = p.live + 1; made = m } in
    let live = insert_live p q c.self.invariant c.args.value (omega arith) room c.occupy-next.ensures.cells c.occupy-next.ensures.link refl refl refl c.insert.ensures.next c.insert.ensures.entry in
    let after : Contents g.row.T.Denot = contents (live_of q.cells) m (min q.free q.table.sure) in let it : Item = record { slot = p.first; serial = m } in
    let less : min p.free p.table.sure ≤ min q.free q.table.sure + 1 = omega (arith, c.insert.ensures.sure) in
    subst (λ (o : Contents g.row.T.Denot). Inserts o after it c.args.value) c.self.view_is (record {
      serial = refl;
      fresh = seen_new p.cells (slot_of p.table) p.made c.self.invariant.table m refl;
      live = live;
      made = refl;
      spare = less;
      within = room;
    })
