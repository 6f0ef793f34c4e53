use borrow.Author.Differences.{ints}
use Rattle.std.proofs.Common.{◌≡◌, ◌≤ℤ◌, ◌+ℤ◌, ◌+◌, ◌*◌, ◌<◌, ◌^◌, ℤ, pos, neg_ℤ, subst, arith, rules, to_z, of_z, FitsSigned}
use mir.Syntax.{w64, w128}
use Rattle.graph_defs.specs.Sum.{at, sum_below}
use Rattle.graph_defs.proofs.Sums.{sum_more}
use Rattle.flow_net.proofs.refusals.is_within_bound.Goals as goal

pub loop-one-preserved : goal.loop-one-preserved
loop-one-preserved c =
    let k = c.loop-one.one-index in
    let sum = to_z w128 c.loop-one.sum-bits in
    let y = at c.args.cap.now k in
    let w : FitsSigned w64 y = search rules in
    let l : k + 1 < 2 ^ 63 = search rules in
    let i0 : sum ≡ sum_below (at c.args.cap.now) k = c.loop-one.invariant.0 in
    let i1 : neg_ℤ (pos (k * 2 ^ 63)) ≤ℤ sum = c.loop-one.invariant.1 in
    let i2 : sum ≤ℤ pos (k * 2 ^ 63) = c.loop-one.invariant.2 in
    let more = sum_more (at c.args.cap.now) k in
    let x = c.from-sum.result in
    let x_is = c.from-sum.ensures in
    let x_fits : FitsSigned w128 x = search rules in
    let e : x ≡ y = omega (arith, ints) in
    let z : (sum +ℤ y) ≡ to_z w128 (of_z w128 (sum +ℤ to_z w128 (of_z w128 x))) = omega (arith, ints) in
    let P : ℤ → Type 0 = λ t. (t ≡ sum_below (at c.args.cap.now) (k + 1)) × (neg_ℤ (pos ((k + 1) * 2 ^ 63)) ≤ℤ t) × (t ≤ℤ pos ((k + 1) * 2 ^ 63)) in
    subst P z (omega (arith, ints), omega (arith, ints), omega (arith, ints))
