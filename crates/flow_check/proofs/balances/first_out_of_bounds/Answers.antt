use Rattle.std.proofs.Common.{ℕ, arith, rules}
use Rattle.std.proofs.lemmas.Bool.{iff_false}
use Rattle.graph_defs.specs.Flow.{IsWithinAt}
use Rattle.graph_defs.proofs.Verdicts.{below_more}
use Rattle.flow_check.proofs.balances.first_out_of_bounds.Goals as goal

pub returns-then-not-is_within : goal.returns-then-not-is_within
returns-then-not-is_within c = record {
  broken = λ h. iff_false c.is_within.ensures c.if-not-is_within.true (h (search rules));
  least = λ v l m. c.loop-arc.invariant v l;
}

pub loop-arc-preserved : goal.loop-arc-preserved
loop-arc-preserved c = below_more (λ (v : ℕ). IsWithinAt c.args.low.now c.args.high.now c.args.flow.now v) c.loop-arc.arc c.loop-arc.invariant (c.is_within.ensures.0 c.if-not-is_within.false)

pub returns : goal.returns
returns c = λ v l. c.loop-arc.invariant v (omega arith)
