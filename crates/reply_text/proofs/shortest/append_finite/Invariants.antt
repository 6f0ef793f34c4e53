use Rattle.std.proofs.Common.{◌≡◌, ◌≤◌, ◌++◌, take, vec_capacity}
use Rattle.std.specs.List.{flat_map}
use Rattle.reply_text.specs.Text.{line_text, finite_lines}
use Rattle.reply_text.proofs.shortest.append_finite.Given as goal

abbrev pub invariant-loop-reached : goal.invariant-loop-reached
invariant-loop-reached l = record {
  text : l.to.items
      ≡ l.initial.to.items ++ flat_map line_text (finite_lines l.nodes l.edges (take l.reached-index l.finite));
  capacity : vec_capacity l.initial.to ≤ vec_capacity l.to;
}
