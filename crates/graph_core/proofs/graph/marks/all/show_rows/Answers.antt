-- The walk goes along the node list, and the lists of each node show after its turn.
use Rattle.std.proofs.Common.{◌<◌, ◌≤◌, Some, false, refl, sym, ap, subst, ◌∙◌}
use Rattle.std.specs.FinMap as map
use Rattle.graph_state.specs.declared.name.ListName.TheVariants.{Nodes, Out, In}
use Rattle.graph_state.specs.Names.{Has, first_of}
use Rattle.graph_state.proofs.Has.{none_some, some_same}
use Rattle.graph_lists.specs.Named.{list_at, head_at}
use Rattle.graph_core.specs.declared.cell.NodeCell.{NodeCell}
use Rattle.graph_core.specs.Restores.{ShowsAll, ShowsRows}
use Rattle.graph_core.proofs.Hiding.{same_on}
use Rattle.graph_core.proofs.Showing.{same_list_at, same_head_at, tokens_stay}
use Rattle.graph_core.proofs.NodeMarks.{passed_none, passed_goes, passed_here, passed_cut, passed_has, passed_more, passed_all, member_stays, finds_back}
use Rattle.graph_core.proofs.AllShown.{rows_none, rows_more}
use Rattle.graph_core.proofs.graph.marks.all.show_rows.Goals as goal

pub loop-turn-init : goal.loop-turn-init
loop-turn-init c =
    let n = c.args.lists.now.named in (
      passed_none (ShowsRows n n) n Nodes c.first-at.result (rows_none n) (c.first-at.ensures false Nodes (c.args.head.now, (c.requires.head, refl))),
      record { heads = refl; members = refl; spare_heads = refl; spare_members = refl },
    )

pub unreachable-requires : goal.unreachable-requires
unreachable-requires c =
    let n = c.args.lists.now.named in
    passed_goes (ShowsRows n c.loop-turn.lists.named) n Nodes c.loop-turn._turn c.loop-turn.at c.loop-turn.invariant.0 c.in_default.is
    (subst (λ k. c.loop-turn._turn < k) (c.len-turn-end.ensures false Nodes (c.args.head.now, (c.requires.head, refl))) c.loop-turn-test.true)

pub number-v-requires : goal.number-v-requires
number-v-requires c =
    let n = c.args.lists.now.named in
    let w = c.loop-turn.invariant.0 in
    let h = passed_here (ShowsRows n c.loop-turn.lists.named) n Nodes c.loop-turn._turn c.loop-turn.at w c.in-Some.m c.in-Some.is in
    (false, (h.x, member_stays n c.loop-turn.lists.named w.holds.same h.x c.in-Some.m h.member))

pub unreachable-requires-in_default-get : goal.unreachable-requires-in_default-get
unreachable-requires-in_default-get c =
    let n = c.args.lists.now.named in
    let m = c.loop-turn.lists.named in
    let w = c.loop-turn.invariant.0 in
    let h = passed_here (ShowsRows n m) n Nodes c.loop-turn._turn c.loop-turn.at w c.in-Some.m c.in-Some.is in
    let e = c.number-v.ensures.number false h.x (member_stays n m w.holds.same h.x c.in-Some.m h.member) in
    let row = c.requires.rows h.x (passed_has (ShowsRows n m) n Nodes c.loop-turn._turn c.loop-turn.at w c.in-Some.m h) in
    none_some (sym c.in_default-get.ensures.0 ∙ ap (map.get c.args.nodes.now.live) e ∙ row.1.0)

pub show_list-requires-clause-head : goal.show_list-requires-clause-head
show_list-requires-clause-head c =
    let n = c.args.lists.now.named in
    let m = c.loop-turn.lists.named in
    let w = c.loop-turn.invariant.0 in
    let h = passed_here (ShowsRows n m) n Nodes c.loop-turn._turn c.loop-turn.at w c.in-Some.m c.in-Some.is in
    let e = c.number-v.ensures.number false h.x (member_stays n m w.holds.same h.x c.in-Some.m h.member) in
    let row = c.requires.rows h.x (passed_has (ShowsRows n m) n Nodes c.loop-turn._turn c.loop-turn.at w c.in-Some.m h) in
    let cell = some_same (sym row.1.0 ∙ ap (map.get c.args.nodes.now.live) (sym e) ∙ c.in-Ok.ensures.0) in
    same_head_at n m w.holds.same (Out c.number-v.result) ∙ ap (λ i. head_at n (Out i)) e ∙ row.1.1.0 ∙ ap (λ (c : NodeCell). Some c.outs) cell

pub show_list-requires-clause-tokens : goal.show_list-requires-clause-tokens
show_list-requires-clause-tokens c =
    tokens_stay c.args.lists.now.named c.loop-turn.lists.named c.loop-turn.invariant.0.holds.same c.args.nodes.now c.args.edges.now (Out c.number-v.result) (c.requires.tokens (Out c.number-v.result))

pub show_list-requires-in-loop-turn-clause-head : goal.show_list-requires-in-loop-turn-clause-head
show_list-requires-in-loop-turn-clause-head c =
    let n = c.args.lists.now.named in
    let m = c.loop-turn.lists.named in
    let o = c.show_list.new.lists.named in
    let w = c.loop-turn.invariant.0 in
    let h = passed_here (ShowsRows n m) n Nodes c.loop-turn._turn c.loop-turn.at w c.in-Some.m c.in-Some.is in
    let e = c.number-v.ensures.number false h.x (member_stays n m w.holds.same h.x c.in-Some.m h.member) in
    let row = c.requires.rows h.x (passed_has (ShowsRows n m) n Nodes c.loop-turn._turn c.loop-turn.at w c.in-Some.m h) in
    let cell = some_same (sym row.1.0 ∙ ap (map.get c.args.nodes.now.live) (sym e) ∙ c.in-Ok.ensures.0) in
    same_head_at n o (same_on n m o w.holds.same c.show_list.ensures.named.same) (In c.number-v.result) ∙ ap (λ i. head_at n (In i)) e ∙ row.1.1.1 ∙ ap (λ (c : NodeCell). Some c.ins) cell

pub show_list-requires-in-loop-turn-clause-tokens : goal.show_list-requires-in-loop-turn-clause-tokens
show_list-requires-in-loop-turn-clause-tokens c =
    let n = c.args.lists.now.named in
    let o = c.show_list.new.lists.named in
    tokens_stay n o (same_on n c.loop-turn.lists.named o c.loop-turn.invariant.0.holds.same c.show_list.ensures.named.same) c.args.nodes.now c.args.edges.now (In c.number-v.result) (c.requires.tokens (In c.number-v.result))

pub next-at-requires : goal.next-at-requires
next-at-requires c =
    let n = c.args.lists.now.named in
    let m = c.loop-turn.lists.named in
    let r = c.show_list-in-loop-turn.new.lists.named in
    let w = c.loop-turn.invariant.0 in
    let h = passed_here (ShowsRows n m) n Nodes c.loop-turn._turn c.loop-turn.at w c.in-Some.m c.in-Some.is in
    let same = same_on n c.show_list.new.lists.named r (same_on n m c.show_list.new.lists.named w.holds.same c.show_list.ensures.named.same) c.show_list-in-loop-turn.ensures.named.same in
    let here = passed_has (ShowsRows n m) n Nodes c.loop-turn._turn c.loop-turn.at w c.in-Some.m h in
    (false, (Nodes, (h.x, (subst (Has h.x) (sym (same_list_at n r same Nodes)) here, member_stays n r same h.x c.in-Some.m h.member))))

pub loop-turn-preserved : goal.loop-turn-preserved
loop-turn-preserved c =
    let n = c.args.lists.now.named in
    let m = c.loop-turn.lists.named in
    let o = c.show_list.new.lists.named in
    let r = c.show_list-in-loop-turn.new.lists.named in
    let w = c.loop-turn.invariant.0 in
    let h = passed_here (ShowsRows n m) n Nodes c.loop-turn._turn c.loop-turn.at w c.in-Some.m c.in-Some.is in
    let e = c.number-v.ensures.number false h.x (member_stays n m w.holds.same h.x c.in-Some.m h.member) in
    let more = rows_more n m o r w.passed h.x w.holds (subst (λ i. ShowsAll m o (list_at m (Out i))) e c.show_list.ensures.named) (subst (λ i. ShowsAll o r (list_at o (In i))) e c.show_list-in-loop-turn.ensures.named) in
    let next = c.next-at.ensures false Nodes h.x w.passed h.behind (member_stays n r more.same h.x c.in-Some.m h.member)
    (same_list_at n r more.same Nodes ∙ passed_cut (ShowsRows n m) n Nodes c.loop-turn._turn c.loop-turn.at w c.in-Some.m h) in
    let outs = c.show_list.ensures.room in
    let ins = c.show_list-in-loop-turn.ensures.room in
    let before = c.loop-turn.invariant.1 in (
      passed_more (ShowsRows n m) n Nodes c.loop-turn._turn c.loop-turn.at w c.in-Some.m h (ShowsRows n r) c.next-at.result more (finds_back n r more.same c.next-at.result (first_of h.behind) next),
      record { heads = ins.heads ∙ outs.heads ∙ before.heads; members = ins.members ∙ outs.members ∙ before.members; spare_heads = ins.spare_heads ∙ outs.spare_heads ∙ before.spare_heads; spare_members = ins.spare_members ∙ outs.spare_members ∙ before.spare_members },
    )

pub returns : goal.returns
returns c =
    let n = c.args.lists.now.named in
    record {
      named = passed_all (ShowsRows n c.loop-turn.lists.named) n Nodes c.loop-turn._turn c.loop-turn.at c.loop-turn.invariant.0
          (subst (λ k. k ≤ c.loop-turn._turn) (c.len-turn-end.ensures false Nodes (c.args.head.now, (c.requires.head, refl))) c.loop-turn-test.false);
      room = c.loop-turn.invariant.1;
    }
