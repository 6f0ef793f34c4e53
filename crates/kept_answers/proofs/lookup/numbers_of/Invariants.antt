use Rattle.std.proofs.Common.{◌≡◌, take}
use Rattle.hide_restore.specs.Net.{numbers_of_edges}
use Rattle.kept_answers.proofs.lookup.numbers_of.Given as goal

abbrev pub invariant-loop-edge : goal.invariant-loop-edge
invariant-loop-edge l = l.numbers ≡ numbers_of_edges (take l.edge-index l.edges)
