use Rattle.std.proofs.Common.{ℕ, arith, rules}
use Rattle.std.proofs.lemmas.Bool.{iff_false}
use Rattle.graph_defs.specs.Shortest.{IsTight}
use Rattle.graph_defs.proofs.Verdicts.{below_more}
use Rattle.sp_check.proofs.paths.first_not_tight.Goals as goal

pub returns-then-not-is_tight : goal.returns-then-not-is_tight
returns-then-not-is_tight c = record {
  broken = λ h. iff_false c.is_tight.ensures c.if-not-is_tight.true (h (search rules));
  least = λ v l m. c.loop-node.invariant v l;
}

pub loop-node-preserved : goal.loop-node-preserved
loop-node-preserved c = below_more (λ (v : ℕ). IsTight c.args.net.now c.args.cost.now c.args.a.now v) c.loop-node.node c.loop-node.invariant (c.is_tight.ensures.0 c.if-not-is_tight.false)

pub returns : goal.returns
returns c = λ v l. c.loop-node.invariant v (omega arith)
