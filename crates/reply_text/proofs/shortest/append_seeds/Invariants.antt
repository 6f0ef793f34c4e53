use Rattle.std.proofs.Common.{◌≡◌, ◌≤◌, ◌++◌, take, vec_capacity}
use Rattle.std.specs.List.{flat_map}
use Rattle.reply_text.specs.Text.{line_text, seed_lines}
use Rattle.reply_text.proofs.shortest.append_seeds.Given as goal

abbrev pub invariant-loop-seed : goal.invariant-loop-seed
invariant-loop-seed l = record {
  text : l.to.items
      ≡ l.initial.to.items ++ flat_map line_text (seed_lines l.nodes l.edges (take l.seed-index l.seeds));
  capacity : vec_capacity l.initial.to ≤ vec_capacity l.to;
}
