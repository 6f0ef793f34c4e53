-- The lines of a script.
use Rattle.std.specs.Prelude.{◌≡◌, ℕ, Bool, false, ◌==◌, List}
use Rattle.std.specs.List.{All, slice_split}

-- the byte that ends a line
abbrev pub is_line_end : ℕ → Bool
is_line_end byte = byte == 10

-- what stands before, between and behind the line ends; so a script that ends with one has an empty
-- line behind it, which says nothing
abbrev pub lines_of : List ℕ → List (List ℕ)
lines_of script = slice_split is_line_end script

-- bytes that end no line
abbrev pub IsPlain : List ℕ → Type 0
IsPlain bytes = All (λ byte. is_line_end byte ≡ false) bytes
