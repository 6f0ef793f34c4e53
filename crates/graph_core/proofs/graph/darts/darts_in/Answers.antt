-- The walk goes along the ring, an element a turn.
use Rattle.std.proofs.Common.{◌≤◌, ◌<◌, true, subst, ◌∙◌}
use Rattle.graph_state.specs.declared.name.Element.TheVariants.{End}
use Rattle.graph_lists.specs.Named.{seen_list}
use Rattle.graph_core.proofs.Darts.{map_itself}
use Rattle.graph_core.proofs.Walks.{walk_begins, walk_goes, walk_here, walk_cut, walk_has, walk_steps, walk_ends}
use Rattle.graph_core.proofs.graph.darts.darts_in.Goals as goal

pub loop-turn-init : goal.loop-turn-init
loop-turn-init c n h = walk_begins End (λ x. x) c.args.lists.now.named true (seen_list c.args.lists.now.named true n) c.in_ok-row.row c.first-at.result c.in_ok-row.ensures (c.first-at.ensures true n h)

pub unreachable-requires : goal.unreachable-requires
unreachable-requires c =
    let n = c.requires.0 in let h = c.requires.1.0 in
    walk_goes End (λ x. x) c.args.lists.now.named true (seen_list c.args.lists.now.named true n) c.loop-turn.row c.loop-turn._turn c.loop-turn.at (c.loop-turn.invariant n h) c.in_default.is (subst (λ k. c.loop-turn._turn < k) (c.len-count.ensures true n h) c.loop-turn-test.true)

pub dart_at-requires : goal.dart_at-requires
dart_at-requires c =
    let n = c.requires.0 in let h = c.requires.1.0 in
    let w = c.loop-turn.invariant n h in
    let x = walk_here End (λ x. x) c.args.lists.now.named true (seen_list c.args.lists.now.named true n) c.loop-turn.row c.loop-turn._turn c.loop-turn.at w c.in-Some.m c.in-Some.is in
    (x.x, (x.member, c.requires.1.1 x.x (walk_has End (λ x. x) c.args.lists.now.named true (seen_list c.args.lists.now.named true n) c.loop-turn.row c.loop-turn._turn c.loop-turn.at w c.in-Some.m x)))

pub next-at-requires : goal.next-at-requires
next-at-requires c =
    let n = c.requires.0 in let h = c.requires.1.0 in
    let w = c.loop-turn.invariant n h in
    let x = walk_here End (λ x. x) c.args.lists.now.named true (seen_list c.args.lists.now.named true n) c.loop-turn.row c.loop-turn._turn c.loop-turn.at w c.in-Some.m c.in-Some.is in
    (true, (n, (x.x, (walk_has End (λ x. x) c.args.lists.now.named true (seen_list c.args.lists.now.named true n) c.loop-turn.row c.loop-turn._turn c.loop-turn.at w c.in-Some.m x, x.member))))

pub loop-turn-preserved : goal.loop-turn-preserved
loop-turn-preserved c n h =
    let w = c.loop-turn.invariant n h in
    let x = walk_here End (λ x. x) c.args.lists.now.named true (seen_list c.args.lists.now.named true n) c.loop-turn.row c.loop-turn._turn c.loop-turn.at w c.in-Some.m c.in-Some.is in
    walk_steps End (λ x. x) c.args.lists.now.named true (seen_list c.args.lists.now.named true n) c.loop-turn.row c.loop-turn._turn c.loop-turn.at w c.in-Some.m x c.dart_at.result c.next-at.result c.push.new.self c.in_ok-push.ensures.ok (c.dart_at.ensures x.x x.member)
    (c.next-at.ensures true n x.x w.taken x.behind x.member (walk_cut End (λ x. x) c.args.lists.now.named true (seen_list c.args.lists.now.named true n) c.loop-turn.row c.loop-turn._turn c.loop-turn.at w c.in-Some.m x))

pub returns : goal.returns
returns c n h =
    walk_ends End (λ x. x) c.args.lists.now.named true (seen_list c.args.lists.now.named true n) c.loop-turn.row c.loop-turn._turn c.loop-turn.at (c.loop-turn.invariant n h) (subst (λ k. k ≤ c.loop-turn._turn) (c.len-count.ensures true n h) c.loop-turn-test.false)
    ∙ map_itself (seen_list c.args.lists.now.named true n)
