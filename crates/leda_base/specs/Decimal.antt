-- Integers as decimal text.
use Rattle.std.specs.Prelude.{ℕ, ◌+◌, ◌-◌, ◌*◌, Bool, not, ◌&&◌, ◌==◌, if◌then◌else◌, List, [], ◌∷◌, length, ℤ, pos, ◌-ℤ◌, Option, None, Some, fold}
use Rattle.std.specs.Option.{option_map}
use Rattle.std.specs.Char.{is_ascii_digit}
use Rattle.std.specs.List.{list_all}

-- one or more digits
abbrev pub is_digits : List ℕ → Bool
is_digits text = not (length text == 0) && list_all is_ascii_digit text

-- the number that digits go on to write, by one more of them
abbrev pub with_digit : ℕ → ℕ → ℕ
with_digit number digit = number * 10 + (digit - 48)

-- the number that digits write, if these are digits
abbrev pub natural_of : List ℕ → Option ℕ
natural_of text = if is_digits text then Some (fold with_digit 0 text) else None

-- the integer that an optional `-` and digits write, if the text is of this form
abbrev pub integer_of : List ℕ → Option ℤ
integer_of [] = None
integer_of (b ∷ bs) =
    if b == 45 then option_map (λ n. pos 0 -ℤ pos n) (natural_of bs)
    else option_map pos (natural_of (b ∷ bs))
