-- A new block is chained in front.
use Rattle.std.proofs.Common.{◌+◌, ◌<◌, arith}
use Rattle.item_pool.proofs.PoolSteps.{grown_chain, grown_long, is_grown, grown_more}
use Rattle.item_pool.proofs.pool.add_cells.Goals as goal

pub loop-free-preserved : goal.loop-free-preserved
loop-free-preserved g c =
    let before = c.loop-free.cells in let more = c.grow.new.self in let free = c.loop-free.free in let first = c.loop-free.first in let n = free + c.args.live in
    let is = c.in-Ok.ensures.ok in let w = n + 64 in let some : 0 < w = omega arith in let long = grown_long before more n w first free some is c.loop-free.invariant.total in
    record {
      chain = grown_chain before more n w first free some is c.loop-free.invariant.total c.loop-free.invariant.chain;
      total = omega (arith, long);
      short = omega (arith, long);
      grown = grown_more c.args.cells.now before more c.loop-free.invariant.grown (is_grown before more n w first free some is c.loop-free.invariant.total);
      more = omega arith;
    }
