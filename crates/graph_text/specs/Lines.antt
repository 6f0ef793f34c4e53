-- The lines of a text, and which of them count.
use Rattle.std.specs.Prelude.{ℕ, ◌+◌, Bool, true, ◌==◌, nat_lt, if◌then◌else◌, List, [], ◌∷◌, length, Option, Some, None, Result, Ok, Err}
use Rattle.std.specs.List.{onto_first}
use Rattle.leda_base.specs.Bytes.{is_blank, trimmed}
use Rattle.graph_defs.specs.declared.plain.TextKind.TheVariants.{Limit}
use Rattle.graph_text.specs.declared.line.TheConstants.{LINE_LIMIT}
use Rattle.graph_text.specs.declared.fault.Fault.{Fault}

-- the lines of a text, each up to an LF or, the last one, up to the end
abbrev pub lines_of : List ℕ → List (List ℕ)
lines_of [] = []
lines_of (b ∷ bs) = if b == 10 then [] ∷ lines_of bs else onto_first b (lines_of bs)

-- bytes without the blanks in front of them
abbrev pub unindented : List ℕ → List ℕ
unindented [] = []
unindented (b ∷ bs) = if is_blank b then unindented bs else b ∷ bs

-- what of a line counts: all without the blanks round it
abbrev pub visible : List ℕ → List ℕ
visible line = trimmed (unindented line)

-- a line of which nothing counts, or that is a comment, is skipped
abbrev pub is_skipped : List ℕ → Bool
is_skipped [] = true
is_skipped (b ∷ bs) = b == 35

-- a line that isn't skipped: its number, from 1, and what of it counts
pub record Line : Type 0 where
  pub number : ℕ
  pub bytes : List ℕ

-- the lines that are still to be read, and the number of the first of them
pub record Unread : Type 0 where
  pub number : ℕ
  pub lines : List (List ℕ)

-- all lines of a text
abbrev pub all_of : List ℕ → Unread
all_of text = record { number = 1; lines = lines_of text }

-- the next line that isn't skipped, if there is one, or that one is too long before it
abbrev pub next_from : ℕ → List (List ℕ) → Result (Option Line × Unread) Fault
next_from number [] = Ok (None, record { number = number; lines = [] })
next_from number (line ∷ lines) =
    if nat_lt LINE_LIMIT (length line) then Err (record { kind = Limit; line = number })
    else if is_skipped (visible line) then next_from (number + 1) lines
    else Ok (
      Some (record { number = number; bytes = visible line }),
      record { number = number + 1; lines = lines },
    )

-- the same of lines that are still to be read
abbrev pub next_of : Unread → Result (Option Line × Unread) Fault
next_of unread = next_from unread.number unread.lines
