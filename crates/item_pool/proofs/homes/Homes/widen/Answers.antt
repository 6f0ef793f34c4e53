-- Each doubling keeps what the ones before kept.
use Rattle.std.proofs.Common.{◌∙◌}
use Rattle.item_pool.proofs.Sure.{stay_on}
use Rattle.item_pool.proofs.homes.Homes.widen.Goals as goal

pub returns-then-is_err-clause-free : goal.returns-then-is_err-clause-free
returns-then-is_err-clause-free c = stay_on c.args.self.now c.loop-self.self c.double.new.self c.loop-self.invariant.1 c.double.ensures.free

pub loop-self-preserved : goal.loop-self-preserved
loop-self-preserved c = (
  λ s. c.double.ensures.kept s ∙ c.loop-self.invariant.0 s,
  stay_on c.args.self.now c.loop-self.self c.double.new.self c.loop-self.invariant.1 c.double.ensures.free,
)
