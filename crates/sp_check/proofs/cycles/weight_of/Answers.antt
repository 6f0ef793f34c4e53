use borrow.Author.Differences.{ints}
use Rattle.std.proofs.Common.{◌≡◌, ◌≤ℤ◌, ◌-ℤ◌, ◌+ℤ◌, ◌+◌, ◌<◌, ◌^◌, ℤ, pos, get_or, subst, arith, rules, to_z, of_z, FitsSigned}
use mir.Syntax.{w64, w128}
use Rattle.graph_defs.specs.Sum.{at}
use Rattle.sp_check.proofs.Steps.{IsTotal, total_more_at}
use Rattle.sp_check.proofs.cycles.weight_of.Goals as goal

pub loop-arc-preserved : goal.loop-arc-preserved
loop-arc-preserved c =
    let sum = to_z w128 c.loop-arc.total-bits in
    let x = c.from-total.result in
    let y = at c.args.cost.now (get_or c.args.walk.now c.loop-arc.arc-index 0) in
    let w : FitsSigned w64 y = search rules in
    let r = c.from-total.ensures in
    let e : x ≡ y = omega (arith, ints) in
    let m = total_more_at c.args.cost.now c.args.walk.now c.loop-arc.arc-index sum x (search rules) c.loop-arc.invariant e (omega (arith, ints)) (omega (arith, ints)) in
    let a = m.above in
    let b = m.below in
    let l : c.loop-arc.arc-index + 1 < 2 ^ 63 = search rules in
    let z : (sum +ℤ x) ≡ to_z w128 (of_z w128 (sum +ℤ to_z w128 (of_z w128 x))) = omega (arith, ints) in
    let P : ℤ → Type 0 = λ t. IsTotal c.args.cost.now c.args.walk.now (c.loop-arc.arc-index + 1) t in
    subst P z m
