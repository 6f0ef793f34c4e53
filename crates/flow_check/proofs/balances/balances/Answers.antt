use borrow.Author.Differences.{ints}
use mir.Syntax.{w64}
use Rattle.std.proofs.Common.{◌≡◌, ℤ, arith, rules, to_z, of_z, FitsSigned}
use Rattle.graph_defs.specs.Sum.{at}
use Rattle.flow_check.proofs.Steps.{IsArc, take_fits, balances_more}
use Rattle.flow_check.proofs.balances.balances.Goals as goal

pub take-requires-clause-fits : goal.take-requires-clause-fits
take-requires-clause-fits c =
    let x = to_z w64 (of_z w64 c.entry-along.result) in
    let f : FitsSigned w64 x = search rules in
    let g : FitsSigned w64 c.entry-along.result = search rules in
    let s : x ≡ c.entry-along.result = omega (arith, ints) in
    let e = c.entry-along.ensures in
    let along : x ≡ at c.args.flow.now c.loop-arc.arc = omega (arith, ints) in
    let few = c.requires.limits.arcs in
    let t = c.loop-arc-test.true in
    let m = c.arc_count-arc-end.ensures in
    take_fits c.args.net.now c.args.flow.now c.loop-arc.arc c.loop-arc.rows.items c.give.new.rows.items c.source_of.result c.target_of.result x c.loop-arc.invariant (omega arith) c.source_of.ensures.below c.target_of.ensures.below
    (record { from = c.source_of.ensures.source; to = c.target_of.ensures.target; along = along; fits = f }) c.give.ensures

pub loop-arc-preserved : goal.loop-arc-preserved
loop-arc-preserved c =
    let x = to_z w64 (of_z w64 c.entry-along.result) in
    let f : FitsSigned w64 x = search rules in
    let g : FitsSigned w64 c.entry-along.result = search rules in
    let e = c.entry-along.ensures in
    let along : x ≡ at c.args.flow.now c.loop-arc.arc = omega (arith, ints) in
    balances_more c.args.net.now c.args.flow.now c.loop-arc.arc c.loop-arc.rows.items c.give.new.rows.items c.take.new.rows.items c.source_of.result c.target_of.result x c.loop-arc.invariant c.source_of.ensures.below c.target_of.ensures.below
    (record { from = c.source_of.ensures.source; to = c.target_of.ensures.target; along = along; fits = f }) c.give.ensures c.take.ensures
