use Rattle.std.proofs.Common.{◌≡◌, ◌≤◌, ◌++◌, map, take, vec_capacity}
use Rattle.reply_text.specs.Words.{cell_word}
use Rattle.reply_text.specs.Text.{words_text}
use Rattle.reply_text.proofs.appending.append_cells.Given as goal

abbrev pub invariant-loop-cell : goal.invariant-loop-cell
invariant-loop-cell l = record {
  text : l.to.items ≡ l.initial.to.items ++ words_text (map cell_word (take l.cell-index l.cells));
  capacity : vec_capacity l.initial.to ≤ vec_capacity l.to;
}
