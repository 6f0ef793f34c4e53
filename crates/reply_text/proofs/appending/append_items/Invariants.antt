use Rattle.std.proofs.Common.{◌≡◌, ◌≤◌, ◌++◌, map, take, vec_capacity}
use Rattle.reply_text.specs.Words.{item_word}
use Rattle.reply_text.specs.Text.{words_text}
use Rattle.reply_text.proofs.appending.append_items.Given as goal

abbrev pub invariant-loop-name : goal.invariant-loop-name
invariant-loop-name l = record {
  text : l.to.items ≡ l.initial.to.items ++ words_text (map item_word (take l.name-index l.names));
  capacity : vec_capacity l.initial.to ≤ vec_capacity l.to;
}
