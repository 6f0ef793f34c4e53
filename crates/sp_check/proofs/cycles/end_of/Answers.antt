use Rattle.std.proofs.Common.{◌≡◌, sym, ◌∙◌, rules}
use Rattle.sp_check.proofs.Steps.{walk_broken, walk_more}
use Rattle.sp_check.proofs.cycles.end_of.Goals as goal

pub returns-then-source_of-here : goal.returns-then-source_of-here
returns-then-source_of-here c = λ w h. walk_broken c.args.net.now c.args.from c.loop-arc.here w c.loop-arc.arc-index c.args.walk.now c.source_of.result (search rules) c.loop-arc.invariant.0 h c.source_of.ensures.source c.if-source_of-here.true

pub loop-arc-preserved : goal.loop-arc-preserved
loop-arc-preserved c = (
  walk_more c.args.net.now c.args.from c.loop-arc.here c.loop-arc.arc-index c.args.walk.now c.source_of.result c.target_of-here.result (search rules) c.requires.arcs c.loop-arc.invariant.0 c.source_of.ensures.source c.target_of-here.ensures.target c.if-source_of-here.false,
  c.target_of-here.ensures.below,
)
