-- The walk goes along the edge list, and each edge has no mark after its turn.
use Rattle.std.proofs.Common.{◌<◌, ◌≤◌, false, refl, sym, ap, subst, ◌∙◌}
use Rattle.std.specs.FinMap as map
use Rattle.item_pool.specs.Contents.{HasLive}
use Rattle.graph_state.specs.declared.name.ListName.TheVariants.{Edges}
use Rattle.graph_state.specs.Names.{number}
use Rattle.graph_core.specs.Restores.{bare_edge, Clears}
use Rattle.graph_core.proofs.NodeMarks.{passed_none, passed_goes, passed_here, passed_cut, passed_has, passed_more, passed_all}
use Rattle.graph_core.proofs.AllShown.{clears_none, clears_more, clears_live}
use Rattle.graph_core.proofs.graph.marks.all.clear_edges.Goals as goal

pub loop-turn-init : goal.loop-turn-init
loop-turn-init c =
    let n = c.args.lists.now.named in
    let p = c.args.edges.now.live in
    (passed_none (Clears bare_edge p p) n Edges c.first-at.result (clears_none bare_edge p) (c.first-at.ensures false Edges (c.args.head.now, (c.requires.head, refl))), refl)

pub unreachable-requires : goal.unreachable-requires
unreachable-requires c =
    let n = c.args.lists.now.named in
    passed_goes (Clears bare_edge c.args.edges.now.live c.loop-turn.edges.live) n Edges c.loop-turn._turn c.loop-turn.at c.loop-turn.invariant.0 c.in_default.is
    (subst (λ k. c.loop-turn._turn < k) (c.len-turn-end.ensures false Edges (c.args.head.now, (c.requires.head, refl))) c.loop-turn-test.true)

pub number-serial-requires : goal.number-serial-requires
number-serial-requires c =
    let n = c.args.lists.now.named in
    let w = c.loop-turn.invariant.0 in
    let h = passed_here (Clears bare_edge c.args.edges.now.live c.loop-turn.edges.live) n Edges c.loop-turn._turn c.loop-turn.at w c.in-Some.m c.in-Some.is in
    (false, (h.x, h.member))

pub set_mark-requires : goal.set_mark-requires
set_mark-requires c =
    let n = c.args.lists.now.named in
    let P = Clears bare_edge c.args.edges.now.live c.loop-turn.edges.live in
    let w = c.loop-turn.invariant.0 in
    let h = passed_here P n Edges c.loop-turn._turn c.loop-turn.at w c.in-Some.m c.in-Some.is in
    let e = c.number-serial.ensures.number false h.x h.member in
    let live = c.requires.live h.x (passed_has P n Edges c.loop-turn._turn c.loop-turn.at w c.in-Some.m h) in
    subst (HasLive c.loop-turn.edges) (sym e) (clears_live bare_edge c.args.edges.now c.loop-turn.edges w.passed w.holds c.loop-turn.invariant.1 (number h.x) live)

pub next-at-requires : goal.next-at-requires
next-at-requires c =
    let n = c.args.lists.now.named in
    let P = Clears bare_edge c.args.edges.now.live c.loop-turn.edges.live in
    let w = c.loop-turn.invariant.0 in
    let h = passed_here P n Edges c.loop-turn._turn c.loop-turn.at w c.in-Some.m c.in-Some.is in
    (false, (Edges, (h.x, (passed_has P n Edges c.loop-turn._turn c.loop-turn.at w c.in-Some.m h, h.member))))

pub loop-turn-preserved : goal.loop-turn-preserved
loop-turn-preserved c =
    let n = c.args.lists.now.named in
    let p = c.args.edges.now.live in
    let q = c.loop-turn.edges.live in
    let r = c.set_mark.new.edges.live in
    let P = Clears bare_edge p q in
    let w = c.loop-turn.invariant.0 in
    let h = passed_here P n Edges c.loop-turn._turn c.loop-turn.at w c.in-Some.m c.in-Some.is in
    let e = c.number-serial.ensures.number false h.x h.member in
    let live = c.requires.live h.x (passed_has P n Edges c.loop-turn._turn c.loop-turn.at w c.in-Some.m h) in
    let cell = clears_live bare_edge c.args.edges.now c.loop-turn.edges w.passed w.holds c.loop-turn.invariant.1 (number h.x) live in
    let is = c.set_mark.ensures.live cell.0 (ap (map.get q) e ∙ cell.1.0) ∙ ap (λ i. map.insert q i (bare_edge cell.0)) e in
    let more = clears_more bare_edge (λ c. refl) p q r w.passed h.x w.holds cell.0 cell.1.0 is in
    let next = c.next-at.ensures false Edges h.x w.passed h.behind h.member (passed_cut P n Edges c.loop-turn._turn c.loop-turn.at w c.in-Some.m h) in
    (passed_more P n Edges c.loop-turn._turn c.loop-turn.at w c.in-Some.m h (Clears bare_edge p r) c.next-at.result more next, c.set_mark.ensures.made ∙ c.loop-turn.invariant.1)

pub returns : goal.returns
returns c =
    let n = c.args.lists.now.named in
    record {
      live = passed_all (Clears bare_edge c.args.edges.now.live c.loop-turn.edges.live) n Edges c.loop-turn._turn c.loop-turn.at c.loop-turn.invariant.0
          (subst (λ k. k ≤ c.loop-turn._turn) (c.len-turn-end.ensures false Edges (c.args.head.now, (c.requires.head, refl))) c.loop-turn-test.false);
      made = c.loop-turn.invariant.1;
    }
