-- A map that one tag was put into has one entry more at most.
use Rattle.std.proofs.Common.{arith}
use Rattle.item_ring.proofs.Callers.{one_more}
use Rattle.item_bench.proofs.memory.add_member.Goals as goal

pub returns : goal.returns
returns c =
    let more = one_more c.args.rings.now.tags c.add_member.new.self.tags c.in-Ok._member c.args.tag c.in-Ok.ensures.made.1 in
    omega (arith, more)
