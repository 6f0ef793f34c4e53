use Rattle.match_check.specs.Passes.{AreCounted}
use Rattle.match_check.proofs.cover.size_by_table.Given as goal

abbrev pub invariant-loop-label : goal.invariant-loop-label
invariant-loop-label l = AreCounted l.labels l.label-index l.size l.odd.items
