use Rattle.std.proofs.Common.{ℕ, arith, rules}
use Rattle.std.proofs.lemmas.Bool.{iff_false}
use Rattle.graph_defs.specs.Shortest.{IsSeed}
use Rattle.graph_defs.proofs.Verdicts.{below_more}
use Rattle.sp_check.proofs.cycles.first_bad_seed.Goals as goal

pub returns-then-not-is_seed : goal.returns-then-not-is_seed
returns-then-not-is_seed c = record {
  broken = λ h. iff_false c.is_seed.ensures c.if-not-is_seed.true (h (search rules));
  least = λ v l m. c.loop-seed.invariant v l;
}

pub loop-seed-preserved : goal.loop-seed-preserved
loop-seed-preserved c = below_more (λ (v : ℕ). IsSeed c.args.net.now c.args.s c.args.cost.now c.args.a.now v) c.loop-seed.seed c.loop-seed.invariant (c.is_seed.ensures.0 c.if-not-is_seed.false)

pub returns : goal.returns
returns c = λ v l. c.loop-seed.invariant v (omega arith)
