-- The front of a line that is too long says as much as the line.
use Rattle.std.proofs.Common.{◌≡◌, ℕ, ◌+◌, ◌<◌, ◌≤◌, Bool, true, false, List, length, nat_lt, nat_le, Err, refl, sym, ◌∙◌, ap, arith}
use Rattle.std.proofs.lemmas.Bool.Decides.{nat_tests}
use Rattle.std.proofs.lemmas.List.{take_all, length-take-le}
use Rattle.script_text.specs.declared.line.TheConstants.{LINE_LIMIT}
use Rattle.script_text.specs.declared.line.LineRefusal.TheVariants.{LongLine}
use Rattle.script_text.specs.Table.{table}
use Rattle.script_text.specs.Line.{line_limit, read_line, meaning_of, line_of, kept_most, kept_of}

pub line_limit-is : line_limit ≡ LINE_LIMIT
unfolding line_limit
line_limit-is = refl

pub kept_most-is : kept_most ≡ LINE_LIMIT + 1
unfolding kept_most line_limit
kept_most-is = refl

kept_most-more : kept_most ≡ line_limit + 1
unfolding kept_most
kept_most-more = refl

-- a line above the limit is refused, whatever it holds
read_line-long : (line : List ℕ) → line_limit < length line → read_line table line ≡ Err LongLine
unfolding read_line
read_line-long line h = let long : nat_lt line_limit (length line)
    ≡ true = grind (arith, nat_tests) in rw long refl

pub line_of-long : (line : List ℕ) → line_limit < length line → line_of line ≡ Err LongLine
unfolding line_of
line_of-long line h = ap meaning_of (read_line-long line h)

-- a line means what the bytes that are kept of it mean
pub line_of-kept : (line : List ℕ) → line_of (kept_of line) ≡ line_of line
line_of-kept line = by_test (nat_le (length line) kept_most) refl
  where
    by_test : (v : Bool) → nat_le (length line) kept_most ≡ v
        → line_of (kept_of line) ≡ line_of line
    by_test true e = let short : length line ≤ kept_most = grind (arith, nat_tests) in ap line_of
        (take_all kept_most line short)
    by_test false e =
        let long : kept_most < length line = grind (arith, nat_tests) in
        let more : kept_most ≡ line_limit + 1 = kept_most-more in
        let kept : length (kept_of line) ≡ kept_most = length-take-le kept_most line
        (omega arith) in
        line_of-long (kept_of line) (omega arith) ∙ sym (line_of-long line (omega arith))
