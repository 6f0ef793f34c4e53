use Rattle.std.proofs.Common.{ℕ, arith, rules}
use Rattle.std.proofs.lemmas.Bool.{iff_false}
use Rattle.graph_defs.specs.Shortest.{HasItsReason}
use Rattle.graph_defs.proofs.Verdicts.{below_more}
use Rattle.sp_check.proofs.cycles.first_without_reason.Goals as goal

pub returns-then-not-has_its_reason : goal.returns-then-not-has_its_reason
returns-then-not-has_its_reason c = record {
  broken = λ h. iff_false c.has_its_reason.ensures c.if-not-has_its_reason.true (h (search rules));
  least = λ v l m. c.loop-node.invariant v l;
}

pub loop-node-preserved : goal.loop-node-preserved
loop-node-preserved c = below_more (λ (v : ℕ). HasItsReason c.args.net.now c.args.a.now v) c.loop-node.node c.loop-node.invariant (c.has_its_reason.ensures.0 c.if-not-has_its_reason.false)

pub returns : goal.returns
returns c = λ v l. c.loop-node.invariant v (omega arith)
