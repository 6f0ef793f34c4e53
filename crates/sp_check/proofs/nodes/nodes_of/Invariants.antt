use Rattle.std.proofs.Common.{◌≡◌, ◌++◌, map, take}
use Rattle.graph_defs.specs.declared.shortest.Finite.{Finite}
use Rattle.graph_defs.specs.declared.shortest.Low.{Low}
use Rattle.graph_defs.proofs.Listed.{finite_nodes}
use Rattle.sp_check.proofs.nodes.nodes_of.Given as goal

abbrev pub invariant-loop-finite : goal.invariant-loop-finite
invariant-loop-finite l = l.nodes.items ≡ map (λ (f : Finite). f.node) (take l.finite-index l.a.finite)

abbrev pub invariant-loop-low : goal.invariant-loop-low
invariant-loop-low l = l.nodes.items ≡ finite_nodes l.a ++ map (λ (w : Low). w.node) (take l.low-index l.a.low)
