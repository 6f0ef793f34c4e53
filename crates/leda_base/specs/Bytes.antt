-- Blanks, and bytes of one line.
use Rattle.std.specs.Prelude.{ℕ, Bool, ◌&&◌, ◌||◌, ◌==◌, not, if◌then◌else◌, List, [], ◌∷◌, length}
use Rattle.std.specs.List.{list_all}

-- a blank is a space, a tab or a CR
abbrev pub is_blank : ℕ → Bool
is_blank b = b == 32 || (b == 9 || b == 13)

-- the bytes without the blanks at their end
abbrev pub trimmed : List ℕ → List ℕ
trimmed [] = []
trimmed (b ∷ bs) = if is_blank b && length (trimmed bs) == 0 then [] else b ∷ trimmed bs

-- bytes none of which ends a line
abbrev pub is_one_line : List ℕ → Bool
is_one_line bytes = list_all (λ b. not (b == 10)) bytes
