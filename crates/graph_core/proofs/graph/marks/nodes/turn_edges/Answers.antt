-- The walk goes along the ring of all that stands in the list, an edge a turn.
use Rattle.std.proofs.Common.{◌<◌, ◌≤◌, false, refl, sym, subst, ◌∙◌}
use Rattle.graph_state.specs.Names.{Has, first_of}
use Rattle.graph_core.specs.Marks.{MarksIf}
use Rattle.graph_core.specs.NodeMarks.{turns, CanTurn, TurnsAll}
use Rattle.graph_core.proofs.Hiding.{same_on}
use Rattle.graph_core.proofs.Showing.{same_list_at, can_turn_still}
use Rattle.graph_core.proofs.NodeMarks.{if_same, turns_none, turns_more, passed_none, passed_goes, passed_here, passed_cut, passed_has, passed_more, passed_all, member_stays, finds_back}
use Rattle.graph_core.proofs.graph.marks.nodes.turn_edges.Goals as goal

pub loop-turn-init : goal.loop-turn-init
loop-turn-init c =
    let n = c.args.lists.now.named in
    let g = turns c.args.shows c.args.nodes.now.live c.args.edges.now.live in (
      passed_none (TurnsAll g c.args.shows n n) n c.args.list c.first-at.result (turns_none g c.args.shows n) (c.first-at.ensures false c.args.list (c.args.head.now, (c.requires.head, refl))),
      record { heads = refl; members = refl; spare_heads = refl; spare_members = refl },
    )

pub unreachable-requires : goal.unreachable-requires
unreachable-requires c =
    let n = c.args.lists.now.named in
    let g = turns c.args.shows c.args.nodes.now.live c.args.edges.now.live in
    passed_goes (TurnsAll g c.args.shows n c.loop-turn.lists.named) n c.args.list c.loop-turn._turn c.loop-turn.at c.loop-turn.invariant.0 c.in_default.is
    (subst (λ k. c.loop-turn._turn < k) (c.len-turn-end.ensures false c.args.list (c.args.head.now, (c.requires.head, refl))) c.loop-turn-test.true)

pub number-e-requires : goal.number-e-requires
number-e-requires c =
    let n = c.args.lists.now.named in
    let g = turns c.args.shows c.args.nodes.now.live c.args.edges.now.live in
    let w = c.loop-turn.invariant.0 in
    let h = passed_here (TurnsAll g c.args.shows n c.loop-turn.lists.named) n c.args.list c.loop-turn._turn c.loop-turn.at w c.in-Some.m c.in-Some.is in
    (false, (h.x, member_stays n c.loop-turn.lists.named w.holds.same h.x c.in-Some.m h.member))

pub turn_edge-requires : goal.turn_edge-requires
turn_edge-requires c =
    let n = c.args.lists.now.named in
    let m = c.loop-turn.lists.named in
    let g = turns c.args.shows c.args.nodes.now.live c.args.edges.now.live in
    let P = TurnsAll g c.args.shows n m in
    let w = c.loop-turn.invariant.0 in
    let h = passed_here P n c.args.list c.loop-turn._turn c.loop-turn.at w c.in-Some.m c.in-Some.is in
    let e = c.number-e.ensures.number false h.x (member_stays n m w.holds.same h.x c.in-Some.m h.member) in
    let here = passed_has P n c.args.list c.loop-turn._turn c.loop-turn.at w c.in-Some.m h in
    subst (CanTurn m c.args.nodes.now c.args.edges.now c.args.heads.now.edges c.args.directed) (sym e)
    (can_turn_still n m w.holds.same c.args.nodes.now c.args.edges.now c.args.heads.now.edges c.args.directed c.args.list c.requires.edges h.x (subst (Has h.x) (sym (same_list_at n m w.holds.same c.args.list)) here))

pub next-at-requires : goal.next-at-requires
next-at-requires c =
    let n = c.args.lists.now.named in
    let m = c.loop-turn.lists.named in
    let o = c.turn_edge.new.lists.named in
    let g = turns c.args.shows c.args.nodes.now.live c.args.edges.now.live in
    let P = TurnsAll g c.args.shows n m in
    let w = c.loop-turn.invariant.0 in
    let h = passed_here P n c.args.list c.loop-turn._turn c.loop-turn.at w c.in-Some.m c.in-Some.is in
    let same = same_on n m o w.holds.same (if_same m o c.number-e.result c.args.shows (g c.number-e.result) c.turn_edge.ensures.named) in
    let here = passed_has P n c.args.list c.loop-turn._turn c.loop-turn.at w c.in-Some.m h in
    (false, (c.args.list, (h.x, (subst (Has h.x) (sym (same_list_at n o same c.args.list)) here, member_stays n o same h.x c.in-Some.m h.member))))

pub loop-turn-preserved : goal.loop-turn-preserved
loop-turn-preserved c =
    let n = c.args.lists.now.named in
    let m = c.loop-turn.lists.named in
    let o = c.turn_edge.new.lists.named in
    let g = turns c.args.shows c.args.nodes.now.live c.args.edges.now.live in
    let P = TurnsAll g c.args.shows n m in
    let w = c.loop-turn.invariant.0 in
    let h = passed_here P n c.args.list c.loop-turn._turn c.loop-turn.at w c.in-Some.m c.in-Some.is in
    let e = c.number-e.ensures.number false h.x (member_stays n m w.holds.same h.x c.in-Some.m h.member) in
    let one = subst (λ i. MarksIf (g i) m o i c.args.shows) e c.turn_edge.ensures.named in
    let more = turns_more g c.args.shows n m o w.passed h.x w.holds one in
    let next = c.next-at.ensures false c.args.list h.x w.passed h.behind (member_stays n o more.same h.x c.in-Some.m h.member)
    (same_list_at n o more.same c.args.list ∙ passed_cut P n c.args.list c.loop-turn._turn c.loop-turn.at w c.in-Some.m h) in
    let room = c.turn_edge.ensures.room in
    let before = c.loop-turn.invariant.1 in (
      passed_more P n c.args.list c.loop-turn._turn c.loop-turn.at w c.in-Some.m h (TurnsAll g c.args.shows n o) c.next-at.result more (finds_back n o more.same c.next-at.result (first_of h.behind) next),
      record { heads = room.heads ∙ before.heads; members = room.members ∙ before.members; spare_heads = room.spare_heads ∙ before.spare_heads; spare_members = room.spare_members ∙ before.spare_members },
    )

pub returns : goal.returns
returns c =
    let n = c.args.lists.now.named in
    let g = turns c.args.shows c.args.nodes.now.live c.args.edges.now.live in
    record {
      named = passed_all (TurnsAll g c.args.shows n c.loop-turn.lists.named) n c.args.list c.loop-turn._turn c.loop-turn.at c.loop-turn.invariant.0
          (subst (λ k. k ≤ c.loop-turn._turn) (c.len-turn-end.ensures false c.args.list (c.args.head.now, (c.requires.head, refl))) c.loop-turn-test.false);
      room = c.loop-turn.invariant.1;
    }
