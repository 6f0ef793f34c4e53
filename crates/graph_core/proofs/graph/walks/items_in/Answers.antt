-- The walk goes along the ring, an element a turn.
use Rattle.std.proofs.Common.{◌≤◌, ◌<◌, subst, ◌∙◌}
use Rattle.graph_state.specs.Names.{number}
use Rattle.graph_lists.specs.Named.{seen_list}
use Rattle.graph_core.proofs.Walks.{walk_begins, walk_goes, walk_here, walk_cut, walk_has, walk_steps, walk_ends}
use Rattle.graph_core.proofs.graph.walks.items_in.Goals as goal

pub loop-turn-init : goal.loop-turn-init
loop-turn-init g c b n h = walk_begins g.I.ByItem.serial number c.args.lists.now.named b (seen_list c.args.lists.now.named b n) c.in_ok-row.row c.first-at.result c.in_ok-row.ensures (c.first-at.ensures b n h)

pub unreachable-requires : goal.unreachable-requires
unreachable-requires g c =
    let b = c.requires.0 in let n = c.requires.1.0 in let h = c.requires.1.1.0 in
    walk_goes g.I.ByItem.serial number c.args.lists.now.named b (seen_list c.args.lists.now.named b n) c.loop-turn.row c.loop-turn._turn c.loop-turn.at (c.loop-turn.invariant b n h) c.in_default.is (subst (λ k. c.loop-turn._turn < k) (c.len-count.ensures b n h) c.loop-turn-test.true)

pub item_at-requires : goal.item_at-requires
item_at-requires g c =
    let b = c.requires.0 in let n = c.requires.1.0 in let h = c.requires.1.1.0 in
    let w = c.loop-turn.invariant b n h in
    let x = walk_here g.I.ByItem.serial number c.args.lists.now.named b (seen_list c.args.lists.now.named b n) c.loop-turn.row c.loop-turn._turn c.loop-turn.at w c.in-Some.m c.in-Some.is in
    (b, (x.x, (x.member, c.requires.1.1.1 x.x (walk_has g.I.ByItem.serial number c.args.lists.now.named b (seen_list c.args.lists.now.named b n) c.loop-turn.row c.loop-turn._turn c.loop-turn.at w c.in-Some.m x))))

pub next-at-requires : goal.next-at-requires
next-at-requires g c =
    let b = c.requires.0 in let n = c.requires.1.0 in let h = c.requires.1.1.0 in
    let w = c.loop-turn.invariant b n h in
    let x = walk_here g.I.ByItem.serial number c.args.lists.now.named b (seen_list c.args.lists.now.named b n) c.loop-turn.row c.loop-turn._turn c.loop-turn.at w c.in-Some.m c.in-Some.is in
    (b, (n, (x.x, (walk_has g.I.ByItem.serial number c.args.lists.now.named b (seen_list c.args.lists.now.named b n) c.loop-turn.row c.loop-turn._turn c.loop-turn.at w c.in-Some.m x, x.member))))

pub loop-turn-preserved : goal.loop-turn-preserved
loop-turn-preserved g c b n h =
    let w = c.loop-turn.invariant b n h in
    let x = walk_here g.I.ByItem.serial number c.args.lists.now.named b (seen_list c.args.lists.now.named b n) c.loop-turn.row c.loop-turn._turn c.loop-turn.at w c.in-Some.m c.in-Some.is in
    walk_steps g.I.ByItem.serial number c.args.lists.now.named b (seen_list c.args.lists.now.named b n) c.loop-turn.row c.loop-turn._turn c.loop-turn.at w c.in-Some.m x c.by.result c.next-at.result c.push.new.self c.in_ok-push.ensures.ok (c.by.ensures ∙ c.item_at.ensures b x.x x.member)
    (c.next-at.ensures b n x.x w.taken x.behind x.member (walk_cut g.I.ByItem.serial number c.args.lists.now.named b (seen_list c.args.lists.now.named b n) c.loop-turn.row c.loop-turn._turn c.loop-turn.at w c.in-Some.m x))

pub returns : goal.returns
returns g c b n h =
    walk_ends g.I.ByItem.serial number c.args.lists.now.named b (seen_list c.args.lists.now.named b n) c.loop-turn.row c.loop-turn._turn c.loop-turn.at (c.loop-turn.invariant b n h) (subst (λ k. k ≤ c.loop-turn._turn) (c.len-count.ensures b n h) c.loop-turn-test.false)
