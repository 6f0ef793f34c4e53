use Rattle.std.proofs.Common.{◌≡◌, ◌≤◌, ◌++◌, vec_capacity}
use Rattle.reply_text.specs.Words.{labelled_words}
use Rattle.reply_text.specs.Text.{words_text}
use Rattle.reply_text.proofs.appending.append_labelled.Given as goal

abbrev pub invariant-loop-place : goal.invariant-loop-place
invariant-loop-place l = record {
  text : l.to.items
      ≡ l.initial.to.items ++ words_text (labelled_words l.letter l.numbers l.labels l.place);
  capacity : vec_capacity l.initial.to ≤ vec_capacity l.to;
}
