-- The walk goes along the edge list, an edge a turn.
use Rattle.std.proofs.Common.{◌≡◌, ℕ, ◌+◌, ◌<◌, ◌≤◌, cond, filter, length, refl, sym, ap, ◌∙◌, arith}
use Rattle.graph_rev.specs.Pairing.{lacks_reversal}
use Rattle.graph_rev.proofs.Walks.{goes_begins, goes_here, goes_cut, goes_has, goes_next, count_push, count_same, count_few}
use Rattle.graph_rev.proofs.map.count_unpaired.Goals as goal
use Rattle.graph_rev.proofs.map.count_unpaired.Goals.{then-is_unpaired, else-is_unpaired}

pub loop-turn-init : goal.loop-turn-init
loop-turn-init c = (goes_begins c.args.g.now.edges c.first_edge-at.result c.first_edge-at.ensures, refl)

pub is_unpaired-requires : goal.is_unpaired-requires
is_unpaired-requires c =
    let es = c.args.g.now.edges in
    let go = c.loop-turn.invariant.0 in
    goes_has es c.loop-turn._turn c.loop-turn.at go c.in-Some.e.0.serial (goes_here es c.loop-turn._turn c.loop-turn.at go c.in-Some.e c.in-Some.is)

pub overflow_add-count : goal.overflow_add-count
overflow_add-count c =
    let v = c.loop-turn.invariant in
    let is = v.1 in
    let counted = v.0.counted in
    let few = count_few (lacks_reversal c.args.g.now) v.0.passed in
    let turn = c.loop-turn-test.true in
    let fits = c.edge_count-turn-end.type_inv in
    omega (arith, is, counted, few, turn, fits)

pub unreachable-requires-in-Err : goal.unreachable-requires-in-Err
unreachable-requires-in-Err c =
    let es = c.args.g.now.edges in
    let go = c.loop-turn.invariant.0 in
    c.in-Err.ensures.0 (goes_has es c.loop-turn._turn c.loop-turn.at go c.in-Some.e.0.serial (goes_here es c.loop-turn._turn c.loop-turn.at go c.in-Some.e c.in-Some.is))

pub loop-turn-preserved : goal.loop-turn-preserved
loop-turn-preserved c =
    let es = c.args.g.now.edges in
    let v = c.loop-turn.invariant in
    let e = c.in-Some.e.0.serial in
    let here = goes_here es c.loop-turn._turn c.loop-turn.at v.0 c.in-Some.e c.in-Some.is in
    let more : c.if-is_unpaired.count ≡ c.loop-turn.count + cond (lacks_reversal c.args.g.now e) 1 0 = elim c.if-is_unpaired.branch [
      | then-is_unpaired w ↦ w.count-is ∙ sym (ap (λ b. c.loop-turn.count + cond b 1 0) (sym c.is_unpaired.ensures ∙ w.if-is_unpaired.true))
      | else-is_unpaired w ↦ w.count-is ∙ count_same c.loop-turn.count (lacks_reversal c.args.g.now e) (sym c.is_unpaired.ensures ∙ w.if-is_unpaired.false)
    ] in (
      goes_next es c.loop-turn._turn c.loop-turn.at v.0 e here c.in-Ok.next (c.in-Ok.ensures.1 v.0.passed here.behind (goes_cut es c.loop-turn._turn c.loop-turn.at v.0 e here)),
      more ∙ ap (λ n. n + cond (lacks_reversal c.args.g.now e) 1 0) v.1 ∙ sym (count_push (lacks_reversal c.args.g.now) v.0.passed e),
    )
