-- No slot is in use.
use Rattle.item_ring.proofs.Stock.{holds_nothing}
use Rattle.item_ring.specs.RingsHold.{RingsHold}
use Rattle.item_ring.proofs.Plans.{apart_now}
use Rattle.item_ring.proofs.rings.Rings.new.Goals as goal

pub invariant_of-result : goal.invariant_of-result
invariant_of-result c =
    let all = holds_nothing c.new.result c.nothing.result.view c.new.ensures.0 c.new.ensures.1 c.new.ensures.2 c.nothing.ensures in
    record { rings = all.0; free = all.1; stock = all.2 }

pub returns-clause-apart : goal.returns-clause-apart
returns-clause-apart c =
    let all = holds_nothing c.new.result c.nothing.result.view c.new.ensures.0 c.new.ensures.1 c.new.ensures.2 c.nothing.ensures in
    let holds : RingsHold (record { nodes = c.new.result; first_free = 0; free = 0; spare_heads = 0; spare_members = 0; seen = c.nothing.result; alloc = c.args.alloc }) = record { rings = all.0; free = all.1; stock = all.2 } in
    apart_now _ holds
