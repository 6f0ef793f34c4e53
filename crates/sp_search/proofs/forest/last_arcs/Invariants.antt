use Rattle.sp_search.specs.Forest.{AreLastArcs}
use Rattle.sp_search.proofs.forest.last_arcs.Given as goal

abbrev pub invariant-loop-arc : goal.invariant-loop-arc
invariant-loop-arc l = AreLastArcs l.net l.tags l.arc l.opened.items
