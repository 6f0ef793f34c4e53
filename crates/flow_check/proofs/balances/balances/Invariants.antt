use Rattle.flow_check.specs.Passes.{AreBalances}
use Rattle.flow_check.proofs.balances.balances.Given as goal

abbrev pub invariant-loop-arc : goal.invariant-loop-arc
invariant-loop-arc l = AreBalances l.net l.flow l.arc l.rows.items
