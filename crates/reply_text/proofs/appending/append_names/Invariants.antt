use Rattle.std.proofs.Common.{◌≡◌, ◌≤◌, ◌++◌, map, take, vec_capacity}
use Rattle.reply_text.specs.Words.{numbered}
use Rattle.reply_text.specs.Text.{words_text}
use Rattle.reply_text.proofs.appending.append_names.Given as goal

abbrev pub invariant-loop-number : goal.invariant-loop-number
invariant-loop-number l = record {
  text : l.to.items
      ≡ l.initial.to.items ++ words_text (map (numbered l.letter) (take l.number-index l.numbers));
  capacity : vec_capacity l.initial.to ≤ vec_capacity l.to;
}
