use Rattle.std.proofs.Common.{ℕ, arith, rules}
use Rattle.std.proofs.lemmas.Bool.{iff_false}
use Rattle.graph_defs.proofs.Verdicts.{below_more}
use Rattle.flow_check.specs.Passes.{IsAtRest}
use Rattle.flow_check.proofs.balances.first_unbalanced.Goals as goal

pub returns-then-not-is_at_rest : goal.returns-then-not-is_at_rest
returns-then-not-is_at_rest c = record {
  broken = λ h. iff_false c.is_at_rest.ensures c.if-not-is_at_rest.true (h (search rules));
  least = λ v l m. c.loop-node.invariant v l;
}

pub loop-node-preserved : goal.loop-node-preserved
loop-node-preserved c = below_more (λ (v : ℕ). IsAtRest c.args.s c.args.t c.args.rows.now v) c.loop-node.node c.loop-node.invariant (c.is_at_rest.ensures.0 c.if-not-is_at_rest.false)

pub returns : goal.returns
returns c = λ v l. c.loop-node.invariant v (omega arith)
