use Rattle.std.proofs.Common.{get_or, arith}
use Rattle.std.proofs.Math.Nat.{le-max_left, le-max_right}
use Rattle.kept_answers.proofs.Listed.{none_above, none_above_more}
use Rattle.kept_answers.proofs.lookup.greatest.Goals as goal

pub loop-number-preserved : goal.loop-number-preserved
loop-number-preserved c =
    let numbers = c.args.numbers.now in
    let most = c.loop-number.most in
    let number = get_or numbers c.loop-number.number-index 0 in
    none_above_more numbers c.loop-number.number-index most c.max-most.result
    c.loop-number-test.true c.loop-number.invariant
    (let left = le-max_left most number in let is = c.max-most.ensures in grind arith)
    (let right = le-max_right most number in let is = c.max-most.ensures in grind arith)

pub returns : goal.returns
returns c = none_above c.args.numbers.now c.loop-number.number-index c.loop-number.most
    (omega (arith, c.loop-number-test.false)) c.loop-number.invariant
