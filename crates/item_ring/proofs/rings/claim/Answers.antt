-- The first of the chain is free, and what is behind it is the chain from here on.
use Rattle.std.proofs.Common.{ap}
use Rattle.item_ring.specs.declared.block.Cell.{Cell}
use Rattle.item_ring.proofs.Stock.{first_used, claimed_pop}
use Rattle.item_ring.proofs.rings.claim.Goals as goal

pub get-requires : goal.get-requires
get-requires c = first_used c.args.nodes.now c.args.first_free.now c.args.free.now c.args.seen.now.view.free c.requires.chain c.if-free-eq0.false

pub reset-requires-clause-slot : goal.reset-requires-clause-slot
reset-requires-clause-slot c = first_used c.args.nodes.now c.args.first_free.now c.args.free.now c.args.seen.now.view.free c.requires.chain c.if-free-eq0.false

pub reset-requires-clause-next : goal.reset-requires-clause-next
reset-requires-clause-next c = first_used c.args.nodes.now c.args.first_free.now c.args.free.now c.args.seen.now.view.free c.requires.chain c.if-free-eq0.false

pub returns-else-free-eq0 : goal.returns-else-free-eq0
returns-else-free-eq0 c =
    claimed_pop c.args.nodes.now c.reset.new.self c.args.first_free.now c.args.free.now c.get.result.next c.args.seen.now.view.free c.args.value c.args.state
    c.requires.chain c.if-free-eq0.false (ap (λ (x : Cell). x.next) c.get.ensures) c.reset.ensures.len c.requires.within c.reset.ensures.cell
