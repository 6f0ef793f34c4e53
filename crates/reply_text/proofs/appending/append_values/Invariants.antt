use Rattle.std.proofs.Common.{◌≡◌, ◌≤◌, ◌++◌, take, vec_capacity}
use Rattle.std.specs.List.{flat_map}
use Rattle.reply_text.specs.Words.{value_text}
use Rattle.reply_text.proofs.appending.append_values.Given as goal

abbrev pub invariant-loop-value : goal.invariant-loop-value
invariant-loop-value l = record {
  text : l.to.items ≡ l.initial.to.items ++ flat_map value_text (take l.value-index l.values);
  capacity : vec_capacity l.initial.to ≤ vec_capacity l.to;
}
