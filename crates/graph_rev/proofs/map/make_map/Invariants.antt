use Rattle.std.proofs.Common.{◌≡◌, filter}
use Rattle.graph_state.specs.State.{shows_edge}
use Rattle.graph_rev.specs.Pairing.{pair_each, map_made}
use Rattle.graph_rev.proofs.Walks.{Goes}
use Rattle.graph_rev.proofs.map.make_map.Given as goal

abbrev pub invariant-loop-turn : goal.invariant-loop-turn
invariant-loop-turn l =
    (go : Goes l.g.edges l._turn l.at) × ((l.g.edges ≡ l.initial.g.edges) × (map_made l.initial.g ≡ pair_each (filter (shows_edge l.g) go.rest) l.g))
