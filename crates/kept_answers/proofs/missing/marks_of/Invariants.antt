use Rattle.std.proofs.Common.{◌≡◌, ℕ, ◌+◌, ◌<◌, false, length, get_or, take}
use Rattle.kept_answers.specs.Checked.{is_listed}
use Rattle.kept_answers.proofs.missing.marks_of.Given as goal

abbrev pub invariant-loop-number : goal.invariant-loop-number
invariant-loop-number l = record {
  long : length l.marks.items ≡ l.most + 1;
  marks : (v : ℕ) → v < length l.marks.items → get_or l.marks.items v false ≡ is_listed v (take l.number-index l.told);
}
