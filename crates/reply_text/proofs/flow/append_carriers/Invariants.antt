use Rattle.std.proofs.Common.{◌≡◌, ◌≤◌, ◌++◌, vec_capacity}
use Rattle.reply_text.specs.Flows.{carriers_below, carried_words}
use Rattle.reply_text.specs.Text.{words_text}
use Rattle.reply_text.proofs.flow.append_carriers.Given as goal

abbrev pub invariant-loop-arc : goal.invariant-loop-arc
invariant-loop-arc l = record {
  text : l.to.items
      ≡ l.initial.to.items ++ words_text (carried_words l.edges l.flow (carriers_below l.flow l.arc));
  capacity : vec_capacity l.initial.to ≤ vec_capacity l.to;
}
