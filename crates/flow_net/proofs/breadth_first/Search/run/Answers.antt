use Rattle.std.proofs.Common.{◌≡◌, ℕ, ◌<◌, length, subst, arith}
use Rattle.flow_net.specs.Search.{found_at, IsSearch}
use Rattle.flow_net.proofs.Steps.{row_of_head, under_way_more}
use Rattle.flow_net.proofs.breadth_first.Search.run.Goals as goal

pub loop-head-preserved : goal.loop-head-preserved
loop-head-preserved c =
    let rows = c.args.rows.now in
    let s = (found_at c.args.self.now.queue.items 0).node in
    let within : c.loop-head.head < length c.loop-head.self.queue.items = (let h = c.loop-head-test.true in let e = c.len.ensures in omega arith) in
    let P : ℕ → Type 0 = λ v. IsSearch rows c.args.cap.now c.args.flow.now v c.spread.new.self.visited.items c.spread.new.self.queue.items in
    under_way_more rows c.args.cap.now c.args.flow.now s c.loop-head.head c.row-row.result.now c.loop-head.self.visited.items c.loop-head.self.queue.items
    c.spread.new.self.visited.items c.spread.new.self.queue.items c.loop-head.invariant within
    (row_of_head rows c.row-row.result.now c.loop-head.self.queue.items c.loop-head.head c.index.result.now within c.index.ensures c.row-row.ensures)
    (subst P c.loop-head.invariant.is.root c.in_ok-spread.ensures.search) c.in_ok-spread.ensures.grows c.in_ok-spread.ensures.spread
