use Rattle.std.proofs.Common.{rules}
use Rattle.sp_check.proofs.Steps.{places_more}
use Rattle.sp_check.proofs.nodes.places_of.Goals as goal

pub loop-place-preserved : goal.loop-place-preserved
loop-place-preserved c = places_more c.args.n c.args.nodes.now c.loop-place.place c.loop-place.places.items c.loop-place.invariant c.requires.once c.requires.below (search rules)
