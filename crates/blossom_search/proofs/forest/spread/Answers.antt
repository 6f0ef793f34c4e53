use Rattle.std.proofs.Common.{◌<◌}
use Rattle.blossom_search.proofs.Forests.{spread_first, spread_more, spread_grown}
use Rattle.blossom_search.proofs.Rounds.{not_found}
use Rattle.blossom_search.proofs.forest.spread.Goals as goal

pub loop-arc-init : goal.loop-arc-init
loop-arc-init c = spread_first c.args.net.now c.args.m.now.edges c.args.stem.now c.args.forest.now c.requires.forest

pub step-requires-clause-stem : goal.step-requires-clause-stem
step-requires-clause-stem c = spread_grown c.args.net.now c.args.m.now.edges c.args.stem.now (λ along. along < c.loop-arc.arc) c.args.forest.now c.loop-arc.forest c.loop-arc.invariant c.requires.stem

pub loop-arc-preserved : goal.loop-arc-preserved
loop-arc-preserved c = spread_more c.args.net.now c.args.m.now.edges c.args.stem.now c.loop-arc.arc c.args.forest.now c.loop-arc.forest c.step.new.forest c.loop-arc.invariant (not_found _ _ _ c.in_default.is c.in_ok-found.ensures)
