-- The walk goes along the ring, an element a turn.
use Rattle.std.proofs.Common.{◌≡◌, ℕ, ◌≤◌, ◌<◌, List, [], ◌∷◌, ◌++◌, refl, sym, ap, subst, ◌∙◌}
use Rattle.std.proofs.Common as list
use Rattle.std.specs.FinMap as map
use Rattle.item_pool.specs.Contents.{HasLive}
use Rattle.graph_state.specs.Names.{number}
use Rattle.graph_lists.specs.Named.{seen_list}
use Rattle.graph_core.specs.Least.{is_free, IsLeast}
use Rattle.graph_core.proofs.Darts.{map_itself}
use Rattle.graph_core.proofs.Walks.{walk_begins, walk_goes, walk_here, walk_cut, walk_has, walk_steps, walk_ends}
use Rattle.graph_core.proofs.graph.opposite.least_opposite.Goals as goal

pub loop-turn-init : goal.loop-turn-init
loop-turn-init c b n h = ([], (walk_begins (λ (i : ℕ). i) number c.args.lists.now.named b (seen_list c.args.lists.now.named b n) [] c.first-at.result refl (c.first-at.ensures b n h), λ d i t. i))

pub unreachable-requires : goal.unreachable-requires
unreachable-requires c =
    let b = c.requires.0 in let n = c.requires.1.0 in let h = c.requires.1.1.0 in
    let v = c.loop-turn.invariant b n h in
    walk_goes (λ (i : ℕ). i) number c.args.lists.now.named b (seen_list c.args.lists.now.named b n) v.0 c.loop-turn._turn c.loop-turn.at v.1.0 c.in_default.is (subst (λ k. c.loop-turn._turn < k) (c.len-turn-end.ensures b n h) c.loop-turn-test.true)

pub number-f-requires : goal.number-f-requires
number-f-requires c =
    let b = c.requires.0 in let n = c.requires.1.0 in let h = c.requires.1.1.0 in
    let v = c.loop-turn.invariant b n h in
    let x = walk_here (λ (i : ℕ). i) number c.args.lists.now.named b (seen_list c.args.lists.now.named b n) v.0 c.loop-turn._turn c.loop-turn.at v.1.0 c.in-Some.m c.in-Some.is in
    (b, (x.x, x.member))

pub is_free_opposite-requires : goal.is_free_opposite-requires
is_free_opposite-requires c =
    let b = c.requires.0 in let n = c.requires.1.0 in let h = c.requires.1.1.0 in
    let v = c.loop-turn.invariant b n h in
    let x = walk_here (λ (i : ℕ). i) number c.args.lists.now.named b (seen_list c.args.lists.now.named b n) v.0 c.loop-turn._turn c.loop-turn.at v.1.0 c.in-Some.m c.in-Some.is in
    subst (HasLive c.args.edges.now) (sym (c.number-f.ensures.number b x.x x.member)) (c.requires.1.1.1 x.x (walk_has (λ (i : ℕ). i) number c.args.lists.now.named b (seen_list c.args.lists.now.named b n) v.0 c.loop-turn._turn c.loop-turn.at v.1.0 c.in-Some.m x))

pub next-at-requires : goal.next-at-requires
next-at-requires c =
    let b = c.requires.0 in let n = c.requires.1.0 in let h = c.requires.1.1.0 in
    let v = c.loop-turn.invariant b n h in
    let x = walk_here (λ (i : ℕ). i) number c.args.lists.now.named b (seen_list c.args.lists.now.named b n) v.0 c.loop-turn._turn c.loop-turn.at v.1.0 c.in-Some.m c.in-Some.is in
    (b, (n, (x.x, (walk_has (λ (i : ℕ). i) number c.args.lists.now.named b (seen_list c.args.lists.now.named b n) v.0 c.loop-turn._turn c.loop-turn.at v.1.0 c.in-Some.m x, x.member))))

pub loop-turn-preserved : goal.loop-turn-preserved
loop-turn-preserved c b n h =
    let v = c.loop-turn.invariant b n h in
    let w = v.1.0 in
    let f = c.number-f.result in
    let x = walk_here (λ (i : ℕ). i) number c.args.lists.now.named b (seen_list c.args.lists.now.named b n) v.0 c.loop-turn._turn c.loop-turn.at w c.in-Some.m c.in-Some.is in (
      v.0 ++ f ∷ [],
      (
        walk_steps (λ (i : ℕ). i) number c.args.lists.now.named b (seen_list c.args.lists.now.named b n) v.0 c.loop-turn._turn c.loop-turn.at w c.in-Some.m x f c.next-at.result (v.0 ++ f ∷ []) refl (c.number-f.ensures.number b x.x x.member)
            (c.next-at.ensures b n x.x w.taken x.behind x.member (walk_cut (λ (i : ℕ). i) number c.args.lists.now.named b (seen_list c.args.lists.now.named b n) v.0 c.loop-turn._turn c.loop-turn.at w c.in-Some.m x)),
        c.keep_less-least.ensures (λ f. is_free c.args.sought.edge c.args.sought.from c.args.sought.to f (map.get c.args.edges.now.live f)) v.0 (sym c.is_free_opposite.ensures) v.1.1,
      ),
    )

pub returns : goal.returns
returns c b n h =
    let v = c.loop-turn.invariant b n h in
    subst (λ row. IsLeast (λ f. is_free c.args.sought.edge c.args.sought.from c.args.sought.to f (map.get c.args.edges.now.live f)) row c.loop-turn.least)
    (sym (map_itself v.0) ∙ walk_ends (λ (i : ℕ). i) number c.args.lists.now.named b (seen_list c.args.lists.now.named b n) v.0 c.loop-turn._turn c.loop-turn.at v.1.0 (subst (λ k. k ≤ c.loop-turn._turn) (c.len-turn-end.ensures b n h) c.loop-turn-test.false)) v.1.1
