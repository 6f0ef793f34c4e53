use borrow.Author.Differences.{ints}
use Rattle.std.proofs.Common.{◌≡◌, ◌≤ℤ◌, ◌-ℤ◌, ◌+ℤ◌, ◌+◌, ◌*◌, ◌<◌, ◌^◌, ℤ, pos, subst, arith, rules, to_z, of_z, FitsSigned}
use Rattle.std.proofs.lemmas.Int.{to_z-of_z}
use mir.Syntax.{w64, w128}
use Rattle.graph_defs.specs.Sum.{at, sum_below}
use Rattle.graph_defs.proofs.Sums.{sum_more}
use Rattle.sp_search.specs.Telling.{size}
use Rattle.sp_search.proofs.Tallies.{size_least, size_fits}
use Rattle.sp_search.proofs.refusals.sizes_of.Goals as goal

pub loop-one-preserved : goal.loop-one-preserved
loop-one-preserved c =
    let k = c.loop-one.one-index in
    let sum = to_z w128 c.loop-one.sum-bits in
    let x = c.size_of-sum.result in
    let y = at c.args.cost.now k in
    let w : FitsSigned w64 y = search rules in
    let r = c.size_of-sum.ensures in
    let e : x ≡ size y = grind (arith, to_z-of_z, r) in
    let low : (pos 0 -ℤ pos (2 ^ 63)) ≤ℤ y = omega (arith, ints) in
    let high : y ≤ℤ pos (2 ^ 63) = omega (arith, ints) in
    let some = size_least y in
    let most = size_fits y low high in
    let l : k + 1 < 2 ^ 63 = search rules in
    let i0 : sum ≡ sum_below (λ arc. size (at c.args.cost.now arc)) k = c.loop-one.invariant.0 in
    let i1 : pos 0 ≤ℤ sum = c.loop-one.invariant.1 in
    let i2 : sum ≤ℤ pos (k * 2 ^ 63) = c.loop-one.invariant.2 in
    let more = sum_more (λ arc. size (at c.args.cost.now arc)) k in
    let z : (sum +ℤ x) ≡ to_z w128 (of_z w128 (sum +ℤ to_z w128 (of_z w128 x))) = omega (arith, ints) in
    let P : ℤ → Type 0 = λ t. (t ≡ sum_below (λ arc. size (at c.args.cost.now arc)) (k + 1)) × (pos 0 ≤ℤ t) × (t ≤ℤ pos ((k + 1) * 2 ^ 63)) in
    subst P z (omega (arith, ints), omega (arith, ints), omega (arith, ints))
