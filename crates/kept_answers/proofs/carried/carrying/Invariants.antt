use Rattle.std.proofs.Common.{◌≡◌}
use Rattle.reply_text.specs.Flows.{carriers_below}
use Rattle.kept_answers.specs.Kept.{entries_at}
use Rattle.kept_answers.proofs.carried.carrying.Given as goal

abbrev pub invariant-loop-arc : goal.invariant-loop-arc
invariant-loop-arc l = l.row ≡ entries_at l.edges (carriers_below l.flow l.arc)
