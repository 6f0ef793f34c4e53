use Rattle.blossom_search.proofs.Augments.{none_more}
use Rattle.blossom_search.proofs.augmenting.place_of.Goals as goal

pub loop-place-preserved : goal.loop-place-preserved
loop-place-preserved c = none_more c.args.edge c.args.edges.now c.loop-place.place c.loop-place-test.true c.if-edges-place.false c.loop-place.invariant
