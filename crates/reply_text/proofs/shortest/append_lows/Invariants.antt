use Rattle.std.proofs.Common.{◌≡◌, ◌≤◌, ◌++◌, take, vec_capacity}
use Rattle.std.specs.List.{flat_map}
use Rattle.reply_text.specs.Text.{line_text, low_lines}
use Rattle.reply_text.proofs.shortest.append_lows.Given as goal

abbrev pub invariant-loop-low : goal.invariant-loop-low
invariant-loop-low l = record {
  text : l.to.items
      ≡ l.initial.to.items ++ flat_map line_text (low_lines l.nodes l.edges (take l.low-index l.lows));
  capacity : vec_capacity l.initial.to ≤ vec_capacity l.to;
}
