use Rattle.script_text.proofs.Numbers.{value_more}
use Rattle.script_text.proofs.text.value_of.Goals as goal

pub loop-digit-preserved : goal.loop-digit-preserved
loop-digit-preserved c =
    rw c.from.ensures (value_more c.args.digits.now c.loop-digit.digit-index c.loop-digit.value
    c.requires.digits c.loop-digit-test.true c.loop-digit.invariant.0 c.loop-digit.invariant.1)
