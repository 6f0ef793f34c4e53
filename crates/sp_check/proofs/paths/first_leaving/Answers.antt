use Rattle.std.proofs.Common.{ℕ, arith, rules}
use Rattle.std.proofs.lemmas.Bool.{iff_false}
use Rattle.graph_defs.specs.Shortest.{StaysWithin}
use Rattle.graph_defs.proofs.Verdicts.{below_more}
use Rattle.sp_check.proofs.paths.first_leaving.Goals as goal

pub returns-then-not-stays_within : goal.returns-then-not-stays_within
returns-then-not-stays_within c = record {
  broken = λ h. iff_false c.stays_within.ensures c.if-not-stays_within.true (h (search rules));
  least = λ v l m. c.loop-arc.invariant v l;
}

pub loop-arc-preserved : goal.loop-arc-preserved
loop-arc-preserved c = below_more (λ (v : ℕ). StaysWithin c.args.net.now c.args.a.now v) c.loop-arc.arc c.loop-arc.invariant (c.stays_within.ensures.0 c.if-not-stays_within.false)

pub returns : goal.returns
returns c = λ v l. c.loop-arc.invariant v (omega arith)
