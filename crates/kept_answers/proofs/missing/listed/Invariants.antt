use Rattle.std.proofs.Common.{◌≡◌, ◌++◌, map, take}
use Rattle.graph_defs.specs.declared.shortest.Finite.{Finite}
use Rattle.graph_defs.specs.declared.shortest.Low.{Low}
use Rattle.graph_defs.proofs.Listed.{finite_nodes}
use Rattle.kept_answers.proofs.missing.listed.Given as goal

abbrev pub invariant-loop-finite : goal.invariant-loop-finite
invariant-loop-finite l = l.nodes ≡ map (λ (f : Finite). f.node) (take l.finite-index l.answer.finite)

abbrev pub invariant-loop-low : goal.invariant-loop-low
invariant-loop-low l = l.nodes ≡ finite_nodes l.answer ++ map (λ (w : Low). w.node) (take l.low-index l.answer.low)

abbrev pub invariant-loop-node : goal.invariant-loop-node
invariant-loop-node l = l.nodes ≡ finite_nodes l.answer ++ (map (λ (w : Low). w.node) l.answer.low ++ take l.node-index l.answer.unreached)
