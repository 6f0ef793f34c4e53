use Rattle.blossom_lift.proofs.Steps.{marks_more}
use Rattle.blossom_lift.proofs.marks.marks_of.Goals as goal

pub loop-number-preserved : goal.loop-number-preserved
loop-number-preserved c = marks_more c.args.numbers.now c.args.n c.loop-number.number-index c.loop-number.marks.items c.mark.new.marks.items c.loop-number.invariant c.loop-number-test.true c.mark.ensures
