-- The walk changes the cell of each element that it passes.
use Rattle.std.proofs.Common.{ℕ, ◌<◌, ◌≤◌, false, [], ◌∷◌, ◌++◌, refl, sym, subst}
use Rattle.item_pool.specs.Contents.{HasLive}
use Rattle.graph_state.specs.Names.{number}
use Rattle.graph_lists.specs.Named.{list_at}
use Rattle.graph_core.proofs.Walks.{walk_begins, walk_goes, walk_here, walk_cut, walk_has, walk_steps}
use Rattle.graph_core.proofs.Turning.{changes_none, still_live, turns_more, turns_all}
use Rattle.graph_core.proofs.graph.whole.turn_each.Goals as goal

pub loop-turn-init : goal.loop-turn-init
loop-turn-init g c n f =
    let v = c.args.lists.now.named in
    ([], (walk_begins (λ (k : ℕ). k) number v false (list_at v n) [] c.first-at.result refl (c.first-at.ensures false n f.head), changes_none g.T.Turn.turned c.args.cells.now))

pub unreachable-requires : goal.unreachable-requires
unreachable-requires g c =
    let n = c.requires.0 in let f = c.requires.1 in let v = c.args.lists.now.named in
    let w = c.loop-turn.invariant n f in
    walk_goes (λ (k : ℕ). k) number v false (list_at v n) w.0 c.loop-turn._turn c.loop-turn.at w.1.0 c.in_default.is (subst (λ k. c.loop-turn._turn < k) (c.len-turn-end.ensures false n f.head) c.loop-turn-test.true)

pub number-requires : goal.number-requires
number-requires g c =
    let n = c.requires.0 in let f = c.requires.1 in let v = c.args.lists.now.named in
    let w = c.loop-turn.invariant n f in
    let h = walk_here (λ (k : ℕ). k) number v false (list_at v n) w.0 c.loop-turn._turn c.loop-turn.at w.1.0 c.in-Some.m c.in-Some.is in
    (false, (h.x, h.member))

pub turn_one-requires : goal.turn_one-requires
turn_one-requires g c =
    let n = c.requires.0 in let f = c.requires.1 in let v = c.args.lists.now.named in
    let w = c.loop-turn.invariant n f in
    let h = walk_here (λ (k : ℕ). k) number v false (list_at v n) w.0 c.loop-turn._turn c.loop-turn.at w.1.0 c.in-Some.m c.in-Some.is in
    subst (HasLive c.loop-turn.cells) (sym (c.number.ensures.number false h.x h.member))
    (still_live g.T.Turn.turned c.args.lists.now c.args.cells.now n c.args.head f w.0 c.loop-turn._turn c.loop-turn.at w.1.0 c.loop-turn.cells w.1.1 c.in-Some.m h)

pub next-at-requires : goal.next-at-requires
next-at-requires g c =
    let n = c.requires.0 in let f = c.requires.1 in let v = c.args.lists.now.named in
    let w = c.loop-turn.invariant n f in
    let h = walk_here (λ (k : ℕ). k) number v false (list_at v n) w.0 c.loop-turn._turn c.loop-turn.at w.1.0 c.in-Some.m c.in-Some.is in
    (false, (n, (h.x, (walk_has (λ (k : ℕ). k) number v false (list_at v n) w.0 c.loop-turn._turn c.loop-turn.at w.1.0 c.in-Some.m h, h.member))))

pub loop-turn-preserved : goal.loop-turn-preserved
loop-turn-preserved g c n f =
    let v = c.args.lists.now.named in
    let w = c.loop-turn.invariant n f in
    let h = walk_here (λ (k : ℕ). k) number v false (list_at v n) w.0 c.loop-turn._turn c.loop-turn.at w.1.0 c.in-Some.m c.in-Some.is in
    let j = c.number.result in
    let is = c.number.ensures.number false h.x h.member in (
      w.0 ++ j ∷ [],
      (
        walk_steps (λ (k : ℕ). k) number v false (list_at v n) w.0 c.loop-turn._turn c.loop-turn.at w.1.0 c.in-Some.m h j c.next-at.result (w.0 ++ j ∷ []) refl is
            (c.next-at.ensures false n h.x w.1.0.taken h.behind h.member (walk_cut (λ (k : ℕ). k) number v false (list_at v n) w.0 c.loop-turn._turn c.loop-turn.at w.1.0 c.in-Some.m h)),
        turns_more g.T.Turn.turned c.args.lists.now c.args.cells.now n c.args.head f w.0 c.loop-turn._turn c.loop-turn.at w.1.0 c.loop-turn.cells w.1.1 c.in-Some.m h j c.turn_one.new.cells is c.turn_one.ensures.live c.turn_one.ensures.made,
      ),
    )

pub returns : goal.returns
returns g c =
    let n = c.requires.0 in let f = c.requires.1 in
    let w = c.loop-turn.invariant n f in
    turns_all g.T.Turn.turned c.args.lists.now c.args.cells.now n c.args.head f w.0 c.loop-turn._turn c.loop-turn.at w.1.0 c.loop-turn.cells w.1.1 (subst (λ k. k ≤ c.loop-turn._turn) (c.len-turn-end.ensures false n f.head) c.loop-turn-test.false)
