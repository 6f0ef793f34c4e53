-- The walk passes one element a turn, and each back dart goes.
use Rattle.std.proofs.Common.{◌≤◌, ◌<◌, false, refl, subst}
use Rattle.graph_core.specs.Gathers.{stay}
use Rattle.graph_core.proofs.Gathering.{gathering_none, gathering_goes, gathering_here, gathering_tokens, here_is, here_in, gathering_more, gathering_ends}
use Rattle.graph_core.proofs.Names.{room_same, room_on}
use Rattle.graph_core.proofs.graph.kinds.gather.Goals as goal

pub loop-turn-init : goal.loop-turn-init
loop-turn-init c =
    let n = c.args.lists.now.named in
    (gathering_none n c.args.nodes.now c.args.edges.now c.args.from c.args.to c.args.head.now c.args.rear.now c.requires c.first-at.result (c.first-at.ensures false c.args.from (c.args.head.now, (c.requires.at_from, refl))), room_same c.args.lists.now)

pub unreachable-requires : goal.unreachable-requires
unreachable-requires c =
    gathering_goes c.args.lists.now.named c.args.nodes.now c.args.edges.now c.args.from c.args.to c.args.head.now c.args.rear.now c.requires c.loop-turn.lists.named c.loop-turn._turn c.loop-turn.at c.loop-turn.invariant.0 c.in_default.is
    (subst (λ k. c.loop-turn._turn < k) (c.len-turn-end.ensures false c.args.from (c.args.head.now, (c.requires.at_from, refl))) c.loop-turn-test.true)

pub next-at-requires : goal.next-at-requires
next-at-requires c =
    let g = c.loop-turn.invariant.0 in
    let h = gathering_here c.args.lists.now.named c.args.nodes.now c.args.edges.now c.args.from c.args.to c.args.head.now c.args.rear.now c.requires c.loop-turn.lists.named c.loop-turn._turn c.loop-turn.at g c.in-Some.m c.in-Some.is in
    (false, (c.args.from, (h.x, (here_in c.args.lists.now.named c.args.nodes.now c.args.edges.now c.args.from c.args.to c.args.head.now c.args.rear.now c.requires c.loop-turn.lists.named c.loop-turn._turn c.loop-turn.at g c.in-Some.m h, h.member))))

pub gather_one-requires-clause-member : goal.gather_one-requires-clause-member
gather_one-requires-clause-member c =
    let g = c.loop-turn.invariant.0 in
    let h = gathering_here c.args.lists.now.named c.args.nodes.now c.args.edges.now c.args.from c.args.to c.args.head.now c.args.rear.now c.requires c.loop-turn.lists.named c.loop-turn._turn c.loop-turn.at g c.in-Some.m c.in-Some.is in
    (h.x, (here_in c.args.lists.now.named c.args.nodes.now c.args.edges.now c.args.from c.args.to c.args.head.now c.args.rear.now c.requires c.loop-turn.lists.named c.loop-turn._turn c.loop-turn.at g c.in-Some.m h, h.member))

pub gather_one-requires-clause-tokens : goal.gather_one-requires-clause-tokens
gather_one-requires-clause-tokens c =
    gathering_tokens c.args.lists.now.named c.args.nodes.now c.args.edges.now c.args.from c.args.to c.args.head.now c.args.rear.now c.requires c.loop-turn.lists.named c.loop-turn._turn c.loop-turn.at c.loop-turn.invariant.0

pub loop-turn-preserved : goal.loop-turn-preserved
loop-turn-preserved c =
    let n = c.args.lists.now.named in
    let m = c.loop-turn.lists.named in
    let g = c.loop-turn.invariant.0 in
    let h = gathering_here n c.args.nodes.now c.args.edges.now c.args.from c.args.to c.args.head.now c.args.rear.now c.requires m c.loop-turn._turn c.loop-turn.at g c.in-Some.m c.in-Some.is in
    let has = here_in n c.args.nodes.now c.args.edges.now c.args.from c.args.to c.args.head.now c.args.rear.now c.requires m c.loop-turn._turn c.loop-turn.at g c.in-Some.m h in
    let is = here_is n c.args.nodes.now c.args.edges.now c.args.from c.args.to c.args.head.now c.args.rear.now c.requires m c.loop-turn._turn c.loop-turn.at g c.in-Some.m h in (
      gathering_more n c.args.nodes.now c.args.edges.now c.args.from c.args.to c.args.head.now c.args.rear.now c.requires m c.loop-turn._turn c.loop-turn.at g c.in-Some.m h c.gather_one.new.lists.named c.next-at.result (c.gather_one.ensures.named h.x has h.member)
          (c.next-at.ensures false c.args.from h.x (stay g.passed) h.behind h.member is),
      room_on c.args.lists.now c.loop-turn.lists c.gather_one.new.lists c.loop-turn.invariant.1 c.gather_one.ensures.room,
    )

pub returns-clause-named : goal.returns-clause-named
returns-clause-named c =
    gathering_ends c.args.lists.now.named c.args.nodes.now c.args.edges.now c.args.from c.args.to c.args.head.now c.args.rear.now c.requires c.loop-turn.lists.named c.loop-turn._turn c.loop-turn.at c.loop-turn.invariant.0
    (subst (λ k. k ≤ c.loop-turn._turn) (c.len-turn-end.ensures false c.args.from (c.args.head.now, (c.requires.at_from, refl))) c.loop-turn-test.false)
