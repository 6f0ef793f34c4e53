-- The walk passes one node a turn.
use Rattle.std.proofs.Common.{ℕ, ◌≤◌, ◌<◌, [], ◌∷◌, ◌++◌, false, refl, sym, subst, ◌∙◌}
use Rattle.item_pool.specs.Contents.{HasLive}
use Rattle.graph_state.specs.declared.name.ListName.TheVariants.{Nodes}
use Rattle.graph_state.specs.Names.{Has, number}
use Rattle.graph_lists.specs.Named.{list_at}
use Rattle.graph_core.specs.Gathers.{GathersAll}
use Rattle.graph_core.proofs.Walks.{walk_begins, walk_goes, walk_here, walk_cut, walk_has, walk_steps, not_passed, passed_all}
use Rattle.graph_core.proofs.Gathering.{member_same, walk_moved, all_none, can_at, all_more}
use Rattle.graph_core.proofs.Names.{room_same, room_on}
use Rattle.graph_core.proofs.graph.kinds.gather_each.Goals as goal

pub loop-turn-init : goal.loop-turn-init
loop-turn-init c =
    let n = c.args.lists.now.named in
    ([], (walk_begins (λ (k : ℕ). k) number n false (list_at n Nodes) [] c.first-at.result refl (c.first-at.ensures false Nodes c.requires.fills.head), all_none n c.args.directed c.requires.can.loose, room_same c.args.lists.now))

pub unreachable-requires : goal.unreachable-requires
unreachable-requires c =
    let i = c.loop-turn.invariant in
    let xs = list_at c.args.lists.now.named Nodes in
    walk_goes (λ (k : ℕ). k) number c.loop-turn.lists.named false xs i.0 c.loop-turn._turn c.loop-turn.at i.1.0 c.in_default.is (subst (λ k. c.loop-turn._turn < k) (c.len-turn-end.ensures false Nodes c.requires.fills.head) c.loop-turn-test.true)

pub number-v-requires : goal.number-v-requires
number-v-requires c =
    let i = c.loop-turn.invariant in
    let xs = list_at c.args.lists.now.named Nodes in
    let h = walk_here (λ (k : ℕ). k) number c.loop-turn.lists.named false xs i.0 c.loop-turn._turn c.loop-turn.at i.1.0 c.in-Some.m c.in-Some.is in
    (false, (h.x, h.member))

pub gather_at-requires : goal.gather_at-requires
gather_at-requires c =
    let i = c.loop-turn.invariant in
    let n = c.args.lists.now.named in
    let m = c.loop-turn.lists.named in
    let xs = list_at n Nodes in
    let h = walk_here (λ (k : ℕ). k) number m false xs i.0 c.loop-turn._turn c.loop-turn.at i.1.0 c.in-Some.m c.in-Some.is in
    let is = c.number-v.ensures.number false h.x h.member in
    let live = c.requires.fills.live h.x (walk_has (λ (k : ℕ). k) number m false xs i.0 c.loop-turn._turn c.loop-turn.at i.1.0 c.in-Some.m h) in
    let fresh = not_passed m false xs i.0 c.loop-turn._turn c.loop-turn.at i.1.0 c.requires.fills.once c.in-Some.m h in
    can_at n c.args.directed m i.0 i.1.1 c.number-v.result (λ j. fresh (subst (λ k. Has k i.0) is j)) c.args.lists.now c.args.nodes.now c.args.edges.now refl c.requires.can (subst (HasLive c.args.nodes.now) (sym is) live)

pub next-at-requires : goal.next-at-requires
next-at-requires c =
    let i = c.loop-turn.invariant in
    let n = c.args.lists.now.named in
    let m = c.loop-turn.lists.named in
    let o = c.gather_at.new.lists.named in
    let xs = list_at n Nodes in
    let h = walk_here (λ (k : ℕ). k) number m false xs i.0 c.loop-turn._turn c.loop-turn.at i.1.0 c.in-Some.m c.in-Some.is in
    let is = c.number-v.ensures.number false h.x h.member in
    let fresh = not_passed m false xs i.0 c.loop-turn._turn c.loop-turn.at i.1.0 c.requires.fills.once c.in-Some.m h in
    let g = all_more n c.args.directed m i.0 i.1.1 c.number-v.result (λ j. fresh (subst (λ k. Has k i.0) is j)) o c.gather_at.ensures.named in
    (false, (Nodes, (h.x, (subst (Has h.x) (sym g.nodes) (walk_has (λ (k : ℕ). k) number m false xs i.0 c.loop-turn._turn c.loop-turn.at i.1.0 c.in-Some.m h), member_same m o c.gather_at.ensures.named.keeps.hooks h.x c.in-Some.m h.member))))

pub loop-turn-preserved : goal.loop-turn-preserved
loop-turn-preserved c =
    let i = c.loop-turn.invariant in
    let n = c.args.lists.now.named in
    let m = c.loop-turn.lists.named in
    let o = c.gather_at.new.lists.named in
    let xs = list_at n Nodes in
    let w = walk_moved m o c.gather_at.ensures.named.keeps.hooks xs i.0 c.loop-turn._turn c.loop-turn.at i.1.0 in
    let h = walk_here (λ (k : ℕ). k) number o false xs i.0 c.loop-turn._turn c.loop-turn.at w c.in-Some.m c.in-Some.is in
    let is = c.number-v.ensures.number false h.x (member_same o m (sym c.gather_at.ensures.named.keeps.hooks) h.x c.in-Some.m h.member) in
    let fresh = not_passed o false xs i.0 c.loop-turn._turn c.loop-turn.at w c.requires.fills.once c.in-Some.m h in
    let g = all_more n c.args.directed m i.0 i.1.1 c.number-v.result (λ j. fresh (subst (λ k. Has k i.0) is j)) o c.gather_at.ensures.named in (
      i.0 ++ c.number-v.result ∷ [],
      (
        walk_steps (λ (k : ℕ). k) number o false xs i.0 c.loop-turn._turn c.loop-turn.at w c.in-Some.m h c.number-v.result c.next-at.result (i.0 ++ c.number-v.result ∷ []) refl is
            (c.next-at.ensures false Nodes h.x w.taken h.behind h.member (g.nodes ∙ walk_cut (λ (k : ℕ). k) number o false xs i.0 c.loop-turn._turn c.loop-turn.at w c.in-Some.m h)),
        g,
        room_on c.args.lists.now c.loop-turn.lists c.gather_at.new.lists i.1.2 c.gather_at.ensures.room,
      ),
    )

pub returns-clause-named : goal.returns-clause-named
returns-clause-named c =
    let i = c.loop-turn.invariant in
    let n = c.args.lists.now.named in
    subst (GathersAll n c.loop-turn.lists.named c.args.directed) (passed_all c.loop-turn.lists.named false (list_at n Nodes) i.0 c.loop-turn._turn c.loop-turn.at i.1.0 (subst (λ k. k ≤ c.loop-turn._turn) (c.len-turn-end.ensures false Nodes c.requires.fills.head) c.loop-turn-test.false)) i.1.1
