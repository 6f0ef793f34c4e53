-- The walk goes along the node list, and each node has no mark after its turn.
use Rattle.std.proofs.Common.{◌<◌, ◌≤◌, false, refl, sym, ap, subst, ◌∙◌}
use Rattle.std.specs.FinMap as map
use Rattle.item_pool.specs.Contents.{HasLive}
use Rattle.graph_state.specs.declared.name.ListName.TheVariants.{Nodes}
use Rattle.graph_state.specs.Names.{number}
use Rattle.graph_core.specs.Restores.{bare_node, Clears}
use Rattle.graph_core.proofs.NodeMarks.{passed_none, passed_goes, passed_here, passed_cut, passed_has, passed_more, passed_all}
use Rattle.graph_core.proofs.AllShown.{clears_none, clears_more, clears_live}
use Rattle.graph_core.proofs.graph.marks.all.clear_nodes.Goals as goal

pub loop-turn-init : goal.loop-turn-init
loop-turn-init c =
    let n = c.args.lists.now.named in
    let p = c.args.nodes.now.live in
    (passed_none (Clears bare_node p p) n Nodes c.first-at.result (clears_none bare_node p) (c.first-at.ensures false Nodes (c.args.head.now, (c.requires.head, refl))), refl)

pub unreachable-requires : goal.unreachable-requires
unreachable-requires c =
    let n = c.args.lists.now.named in
    passed_goes (Clears bare_node c.args.nodes.now.live c.loop-turn.nodes.live) n Nodes c.loop-turn._turn c.loop-turn.at c.loop-turn.invariant.0 c.in_default.is
    (subst (λ k. c.loop-turn._turn < k) (c.len-turn-end.ensures false Nodes (c.args.head.now, (c.requires.head, refl))) c.loop-turn-test.true)

pub number-serial-requires : goal.number-serial-requires
number-serial-requires c =
    let n = c.args.lists.now.named in
    let w = c.loop-turn.invariant.0 in
    let h = passed_here (Clears bare_node c.args.nodes.now.live c.loop-turn.nodes.live) n Nodes c.loop-turn._turn c.loop-turn.at w c.in-Some.m c.in-Some.is in
    (false, (h.x, h.member))

pub set_node_mark-requires : goal.set_node_mark-requires
set_node_mark-requires c =
    let n = c.args.lists.now.named in
    let P = Clears bare_node c.args.nodes.now.live c.loop-turn.nodes.live in
    let w = c.loop-turn.invariant.0 in
    let h = passed_here P n Nodes c.loop-turn._turn c.loop-turn.at w c.in-Some.m c.in-Some.is in
    let e = c.number-serial.ensures.number false h.x h.member in
    let live = c.requires.live h.x (passed_has P n Nodes c.loop-turn._turn c.loop-turn.at w c.in-Some.m h) in
    subst (HasLive c.loop-turn.nodes) (sym e) (clears_live bare_node c.args.nodes.now c.loop-turn.nodes w.passed w.holds c.loop-turn.invariant.1 (number h.x) live)

pub next-at-requires : goal.next-at-requires
next-at-requires c =
    let n = c.args.lists.now.named in
    let P = Clears bare_node c.args.nodes.now.live c.loop-turn.nodes.live in
    let w = c.loop-turn.invariant.0 in
    let h = passed_here P n Nodes c.loop-turn._turn c.loop-turn.at w c.in-Some.m c.in-Some.is in
    (false, (Nodes, (h.x, (passed_has P n Nodes c.loop-turn._turn c.loop-turn.at w c.in-Some.m h, h.member))))

pub loop-turn-preserved : goal.loop-turn-preserved
loop-turn-preserved c =
    let n = c.args.lists.now.named in
    let p = c.args.nodes.now.live in
    let q = c.loop-turn.nodes.live in
    let r = c.set_node_mark.new.nodes.live in
    let P = Clears bare_node p q in
    let w = c.loop-turn.invariant.0 in
    let h = passed_here P n Nodes c.loop-turn._turn c.loop-turn.at w c.in-Some.m c.in-Some.is in
    let e = c.number-serial.ensures.number false h.x h.member in
    let live = c.requires.live h.x (passed_has P n Nodes c.loop-turn._turn c.loop-turn.at w c.in-Some.m h) in
    let cell = clears_live bare_node c.args.nodes.now c.loop-turn.nodes w.passed w.holds c.loop-turn.invariant.1 (number h.x) live in
    let is = c.set_node_mark.ensures.live cell.0 (ap (map.get q) e ∙ cell.1.0) ∙ ap (λ i. map.insert q i (bare_node cell.0)) e in
    let more = clears_more bare_node (λ c. refl) p q r w.passed h.x w.holds cell.0 cell.1.0 is in
    let next = c.next-at.ensures false Nodes h.x w.passed h.behind h.member (passed_cut P n Nodes c.loop-turn._turn c.loop-turn.at w c.in-Some.m h) in
    (passed_more P n Nodes c.loop-turn._turn c.loop-turn.at w c.in-Some.m h (Clears bare_node p r) c.next-at.result more next, c.set_node_mark.ensures.made ∙ c.loop-turn.invariant.1)

pub returns : goal.returns
returns c =
    let n = c.args.lists.now.named in
    record {
      live = passed_all (Clears bare_node c.args.nodes.now.live c.loop-turn.nodes.live) n Nodes c.loop-turn._turn c.loop-turn.at c.loop-turn.invariant.0
          (subst (λ k. k ≤ c.loop-turn._turn) (c.len-turn-end.ensures false Nodes (c.args.head.now, (c.requires.head, refl))) c.loop-turn-test.false);
      made = c.loop-turn.invariant.1;
    }
