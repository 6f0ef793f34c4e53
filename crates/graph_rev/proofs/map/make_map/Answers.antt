-- The walk goes along the edge list, an edge a turn.
use Rattle.std.proofs.Common.{◌≡◌, ℕ, ◌+◌, ◌≤◌, List, ◌∷◌, ◌++◌, filter, length, refl, sym, ap, subst, ◌∙◌}
use Rattle.graph_state.specs.State.{GraphState, shows_edge}
use Rattle.graph_state.specs.Names.{Has}
use Rattle.graph_rev.specs.Pairing.{pair_each, map_made}
use Rattle.graph_rev.proofs.Walks.{goes_begins, goes_here, goes_cut, goes_has, goes_next, goes_as, goes_end, first_edges, step_each}
use Rattle.graph_rev.proofs.map.make_map.Goals as goal

pub loop-turn-init : goal.loop-turn-init
unfolding map_made
loop-turn-init c = (goes_begins c.args.g.now.edges c.first_edge-at.result c.first_edge-at.ensures, (refl, refl))

pub pair_one-requires : goal.pair_one-requires
pair_one-requires c =
    let es = c.loop-turn.g.edges in
    let go = c.loop-turn.invariant.0 in
    goes_has es c.loop-turn._turn c.loop-turn.at go c.in-Some.e.0.serial (goes_here es c.loop-turn._turn c.loop-turn.at go c.in-Some.e c.in-Some.is)

pub unreachable-requires-in-Err : goal.unreachable-requires-in-Err
unreachable-requires-in-Err c =
    let g = c.loop-turn.g in
    let go = c.loop-turn.invariant.0 in
    let e = c.in-Some.e.0.serial in
    let here = goes_here g.edges c.loop-turn._turn c.loop-turn.at go c.in-Some.e c.in-Some.is in
    let new = c.pair_one.ensures go.passed here.behind (goes_cut g.edges c.loop-turn._turn c.loop-turn.at go e here) in
    c.in-Err.ensures.0 (subst (Has e) (sym (ap (λ (s : GraphState). s.edges) new ∙ first_edges g e here.behind)) (goes_has g.edges c.loop-turn._turn c.loop-turn.at go e here))

pub loop-turn-preserved : goal.loop-turn-preserved
loop-turn-preserved c =
    let g = c.loop-turn.g in
    let v = c.loop-turn.invariant in
    let go = v.0 in
    let e = c.in-Some.e.0.serial in
    let here = goes_here g.edges c.loop-turn._turn c.loop-turn.at go c.in-Some.e c.in-Some.is in
    let cut = goes_cut g.edges c.loop-turn._turn c.loop-turn.at go e here in
    let new = c.pair_one.ensures go.passed here.behind cut in
    let same : c.pair_one.new.g.edges ≡ g.edges = ap (λ (s : GraphState). s.edges) new ∙ first_edges g e here.behind in (
      goes_as g.edges c.pair_one.new.g.edges (c.loop-turn._turn + 1) c.in-Ok.next same (goes_next g.edges c.loop-turn._turn c.loop-turn.at go e here c.in-Ok.next (c.in-Ok.ensures.1 go.passed here.behind (same ∙ cut))),
      (
        same ∙ v.1.0,
        v.1.1 ∙ ap (λ r. pair_each (filter (shows_edge g) r) g) here.is ∙ step_each g e here.behind ∙ ap (λ (s : GraphState). pair_each (filter (shows_edge s) here.behind) s) (sym new),
      ),
    )

pub returns-clause-state : goal.returns-clause-state
unfolding pair_each
returns-clause-state c =
    let g = c.loop-turn.g in
    let v = c.loop-turn.invariant in
    let none = goes_end g.edges c.loop-turn._turn c.loop-turn.at v.0 (subst (λ k. k ≤ c.loop-turn._turn) (c.edge_count-turn-end.ensures ∙ sym (ap length v.1.0)) c.loop-turn-test.false) in
    sym (v.1.1 ∙ ap (λ r. pair_each (filter (shows_edge g) r) g) none)
