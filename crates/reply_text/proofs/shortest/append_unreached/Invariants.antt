use Rattle.std.proofs.Common.{◌≡◌, ◌≤◌, ◌++◌, take, vec_capacity}
use Rattle.std.specs.List.{flat_map}
use Rattle.reply_text.specs.Text.{line_text, unreached_lines}
use Rattle.reply_text.proofs.shortest.append_unreached.Given as goal

abbrev pub invariant-loop-node : goal.invariant-loop-node
invariant-loop-node l = record {
  text : l.to.items
      ≡ l.initial.to.items ++ flat_map line_text (unreached_lines l.nodes (take l.node-index l.unreached));
  capacity : vec_capacity l.initial.to ≤ vec_capacity l.to;
}
