use Rattle.std.proofs.Common.{◌≡◌, ◌≤◌, ◌++◌, take, vec_capacity}
use Rattle.reply_text.specs.Words.{words_at}
use Rattle.reply_text.specs.Text.{words_text}
use Rattle.reply_text.proofs.appending.append_items_at.Given as goal

abbrev pub invariant-loop-place : goal.invariant-loop-place
invariant-loop-place l = record {
  text : l.to.items
      ≡ l.initial.to.items ++ words_text (words_at l.letter l.numbers
      (take l.place-index l.places));
  capacity : vec_capacity l.initial.to ≤ vec_capacity l.to;
}
