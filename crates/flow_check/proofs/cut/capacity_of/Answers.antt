use borrow.Author.Differences.{ints}
use mir.Syntax.{w128}
use Rattle.std.proofs.Common.{◌≡◌, ◌+◌, ◌+ℤ◌, ℕ, ℤ, subst, arith, rules, to_z, of_z, FitsSigned}
use Rattle.graph_defs.specs.Flow.{capacity_below}
use Rattle.graph_defs.specs.Set.{leaves}
use Rattle.graph_defs.specs.Sum.{at, when}
use Rattle.flow_check.specs.Passes.{IsSmall, marked}
use Rattle.flow_check.proofs.Steps.{sum_step}
use Rattle.flow_check.proofs.cut.capacity_of.Goals as goal

pub loop-arc-preserved : goal.loop-arc-preserved
loop-arc-preserved c =
    let net = c.args.net.now in
    let f : ℕ → ℤ = λ arc. when (leaves net (marked c.args.marks.now) arc) (at c.args.cap.now arc) in
    let sum = to_z w128 c.loop-arc.sum-bits in
    let r = c.leaving-sum.result in
    let few = c.requires.valid.limits.arcs in
    let t = c.loop-arc-test.true in
    let e = c.arc_count-arc-end.ensures in
    let m = sum_step f c.loop-arc.arc sum r c.loop-arc.invariant c.leaving-sum.ensures.value c.leaving-sum.ensures.small (omega arith) in
    let g = m.2 in
    let w : FitsSigned w128 r = search rules in
    let P : ℤ → Type 0 = λ y. (y ≡ capacity_below net c.args.cap.now (marked c.args.marks.now) (c.loop-arc.arc + 1)) × IsSmall (c.loop-arc.arc + 1) y in
    let z : (sum +ℤ r) ≡ to_z w128 (of_z w128 (sum +ℤ to_z w128 (of_z w128 r))) = omega (arith, ints) in
    subst P z (m.0, m.1)
