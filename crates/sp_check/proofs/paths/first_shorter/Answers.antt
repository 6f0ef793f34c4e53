use Rattle.std.proofs.Common.{ℕ, arith, rules}
use Rattle.std.proofs.lemmas.Bool.{iff_false}
use Rattle.graph_defs.specs.Shortest.{IsNotShorter}
use Rattle.graph_defs.proofs.Verdicts.{below_more}
use Rattle.sp_check.proofs.paths.first_shorter.Goals as goal

pub returns-then-not-is_not_shorter : goal.returns-then-not-is_not_shorter
returns-then-not-is_not_shorter c = record {
  broken = λ h. iff_false c.is_not_shorter.ensures c.if-not-is_not_shorter.true (h (search rules));
  least = λ v l m. c.loop-arc.invariant v l;
}

pub loop-arc-preserved : goal.loop-arc-preserved
loop-arc-preserved c = below_more (λ (v : ℕ). IsNotShorter c.args.net.now c.args.cost.now c.args.a.now v) c.loop-arc.arc c.loop-arc.invariant (c.is_not_shorter.ensures.0 c.if-not-is_not_shorter.false)

pub returns : goal.returns
returns c = λ v l. c.loop-arc.invariant v (omega arith)
