-- The walk goes along the ring of all that stands in the list, and each element shows after its turn.
use Rattle.std.proofs.Common.{◌<◌, ◌≤◌, false, true, refl, sym, ap, subst, ◌∙◌}
use Rattle.graph_state.specs.Names.{Has, first_of}
use Rattle.graph_lists.specs.Named.{list_at, hook_at}
use Rattle.graph_core.specs.Marks.{Marks}
use Rattle.graph_core.specs.Restores.{ShowsAll}
use Rattle.graph_core.proofs.Hiding.{same_on}
use Rattle.graph_core.proofs.Showing.{same_list_at, same_head_at, tokens_stay}
use Rattle.graph_core.proofs.NodeMarks.{passed_none, passed_goes, passed_here, passed_cut, passed_has, passed_more, passed_all, member_stays, finds_back}
use Rattle.graph_core.proofs.AllShown.{shows_none, shows_more}
use Rattle.graph_core.proofs.graph.marks.all.show_list.Goals as goal

pub loop-turn-init : goal.loop-turn-init
loop-turn-init c =
    let n = c.args.lists.now.named in (
      passed_none (ShowsAll n n) n c.args.list c.first-at.result (shows_none n) (c.first-at.ensures false c.args.list (c.args.head.now, (c.requires.head, refl))),
      record { heads = refl; members = refl; spare_heads = refl; spare_members = refl },
    )

pub unreachable-requires : goal.unreachable-requires
unreachable-requires c =
    let n = c.args.lists.now.named in
    passed_goes (ShowsAll n c.loop-turn.lists.named) n c.args.list c.loop-turn._turn c.loop-turn.at c.loop-turn.invariant.0 c.in_default.is
    (subst (λ k. c.loop-turn._turn < k) (c.len-turn-end.ensures false c.args.list (c.args.head.now, (c.requires.head, refl))) c.loop-turn-test.true)

pub element_at-x-requires : goal.element_at-x-requires
element_at-x-requires c =
    let n = c.args.lists.now.named in
    let m = c.loop-turn.lists.named in
    let w = c.loop-turn.invariant.0 in
    let h = passed_here (ShowsAll n m) n c.args.list c.loop-turn._turn c.loop-turn.at w c.in-Some.m c.in-Some.is in
    let has = subst (Has h.x) (sym (same_list_at n m w.holds.same c.args.list)) (passed_has (ShowsAll n m) n c.args.list c.loop-turn._turn c.loop-turn.at w c.in-Some.m h) in
    (h.x, (has, (member_stays n m w.holds.same h.x c.in-Some.m h.member, tokens_stay n m w.holds.same c.args.nodes.now c.args.edges.now c.args.list c.requires.tokens h.x has)))

pub show_element-requires-clause-head : goal.show_element-requires-clause-head
show_element-requires-clause-head c = same_head_at c.args.lists.now.named c.loop-turn.lists.named c.loop-turn.invariant.0.holds.same c.args.list ∙ c.requires.head

pub show_element-requires-clause-hook : goal.show_element-requires-clause-hook
show_element-requires-clause-hook c =
    let n = c.args.lists.now.named in
    let m = c.loop-turn.lists.named in
    let w = c.loop-turn.invariant.0 in
    let h = passed_here (ShowsAll n m) n c.args.list c.loop-turn._turn c.loop-turn.at w c.in-Some.m c.in-Some.is in
    let has = subst (Has h.x) (sym (same_list_at n m w.holds.same c.args.list)) (passed_has (ShowsAll n m) n c.args.list c.loop-turn._turn c.loop-turn.at w c.in-Some.m h) in
    let e = c.element_at-x.ensures h.x has (member_stays n m w.holds.same h.x c.in-Some.m h.member) (tokens_stay n m w.holds.same c.args.nodes.now c.args.edges.now c.args.list c.requires.tokens h.x has) in
    ap (hook_at m) e.0 ∙ e.1

pub show_element-requires-clause-there : goal.show_element-requires-clause-there
show_element-requires-clause-there c =
    let n = c.args.lists.now.named in
    let m = c.loop-turn.lists.named in
    let w = c.loop-turn.invariant.0 in
    let h = passed_here (ShowsAll n m) n c.args.list c.loop-turn._turn c.loop-turn.at w c.in-Some.m c.in-Some.is in
    let has = subst (Has h.x) (sym (same_list_at n m w.holds.same c.args.list)) (passed_has (ShowsAll n m) n c.args.list c.loop-turn._turn c.loop-turn.at w c.in-Some.m h) in
    let e = c.element_at-x.ensures h.x has (member_stays n m w.holds.same h.x c.in-Some.m h.member) (tokens_stay n m w.holds.same c.args.nodes.now c.args.edges.now c.args.list c.requires.tokens h.x has) in
    subst (λ x. Has x (list_at m c.args.list)) (sym e.0) has

pub show_element-requires-clause-tokens : goal.show_element-requires-clause-tokens
show_element-requires-clause-tokens c = tokens_stay c.args.lists.now.named c.loop-turn.lists.named c.loop-turn.invariant.0.holds.same c.args.nodes.now c.args.edges.now c.args.list c.requires.tokens

pub next-at-requires : goal.next-at-requires
next-at-requires c =
    let n = c.args.lists.now.named in
    let m = c.loop-turn.lists.named in
    let o = c.show_element.new.lists.named in
    let w = c.loop-turn.invariant.0 in
    let h = passed_here (ShowsAll n m) n c.args.list c.loop-turn._turn c.loop-turn.at w c.in-Some.m c.in-Some.is in
    let same = same_on n m o w.holds.same c.show_element.ensures.named.same in
    let here = passed_has (ShowsAll n m) n c.args.list c.loop-turn._turn c.loop-turn.at w c.in-Some.m h in
    (false, (c.args.list, (h.x, (subst (Has h.x) (sym (same_list_at n o same c.args.list)) here, member_stays n o same h.x c.in-Some.m h.member))))

pub loop-turn-preserved : goal.loop-turn-preserved
loop-turn-preserved c =
    let n = c.args.lists.now.named in
    let m = c.loop-turn.lists.named in
    let o = c.show_element.new.lists.named in
    let w = c.loop-turn.invariant.0 in
    let h = passed_here (ShowsAll n m) n c.args.list c.loop-turn._turn c.loop-turn.at w c.in-Some.m c.in-Some.is in
    let has = subst (Has h.x) (sym (same_list_at n m w.holds.same c.args.list)) (passed_has (ShowsAll n m) n c.args.list c.loop-turn._turn c.loop-turn.at w c.in-Some.m h) in
    let e = c.element_at-x.ensures h.x has (member_stays n m w.holds.same h.x c.in-Some.m h.member) (tokens_stay n m w.holds.same c.args.nodes.now c.args.edges.now c.args.list c.requires.tokens h.x has) in
    let more = shows_more n m o w.passed h.x w.holds (subst (λ x. Marks m o x true) e.0 c.show_element.ensures.named) in
    let next = c.next-at.ensures false c.args.list h.x w.passed h.behind (member_stays n o more.same h.x c.in-Some.m h.member)
    (same_list_at n o more.same c.args.list ∙ passed_cut (ShowsAll n m) n c.args.list c.loop-turn._turn c.loop-turn.at w c.in-Some.m h) in
    let room = c.show_element.ensures.room in
    let before = c.loop-turn.invariant.1 in (
      passed_more (ShowsAll n m) n c.args.list c.loop-turn._turn c.loop-turn.at w c.in-Some.m h (ShowsAll n o) c.next-at.result more (finds_back n o more.same c.next-at.result (first_of h.behind) next),
      record { heads = room.heads ∙ before.heads; members = room.members ∙ before.members; spare_heads = room.spare_heads ∙ before.spare_heads; spare_members = room.spare_members ∙ before.spare_members },
    )

pub returns : goal.returns
returns c =
    let n = c.args.lists.now.named in
    record {
      named = passed_all (ShowsAll n c.loop-turn.lists.named) n c.args.list c.loop-turn._turn c.loop-turn.at c.loop-turn.invariant.0
          (subst (λ k. k ≤ c.loop-turn._turn) (c.len-turn-end.ensures false c.args.list (c.args.head.now, (c.requires.head, refl))) c.loop-turn-test.false);
      room = c.loop-turn.invariant.1;
    }
