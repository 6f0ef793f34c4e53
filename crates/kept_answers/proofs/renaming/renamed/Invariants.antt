use Rattle.std.proofs.Common.{◌≡◌, map, take}
use Rattle.kept_answers.specs.Renamed.{finite_by, seed_by, low_by}
use Rattle.kept_answers.proofs.renaming.renamed.Given as goal

abbrev pub invariant-loop-one : goal.invariant-loop-one
invariant-loop-one g l =
    l.finite ≡ map (finite_by (g.N.Numbering.number l.nodes) (g.A.Numbering.number l.arcs)) (take l.one-index l.answer.finite)

abbrev pub invariant-loop-one-2 : goal.invariant-loop-one-2
invariant-loop-one-2 g l =
    l.seeds ≡ map (seed_by (g.N.Numbering.number l.nodes) (g.A.Numbering.number l.arcs)) (take l.one-index l.answer.seeds)

abbrev pub invariant-loop-one-3 : goal.invariant-loop-one-3
invariant-loop-one-3 g l =
    l.low ≡ map (low_by (g.N.Numbering.number l.nodes) (g.A.Numbering.number l.arcs)) (take l.one-index l.answer.low)
