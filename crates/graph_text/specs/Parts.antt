-- The parts of a line: fields, numbers and labels.
use Rattle.std.specs.Prelude.{ℕ, ◌-◌, ◌&&◌, nat_eq, nat_le, if◌then◌else◌, List, [], ◌∷◌, length, take, drop, codes, Option, Some, None}
use Rattle.std.specs.List.{starts_with, ends_with}
use Rattle.leda_base.specs.Decimal.{natural_of}
use Rattle.leda_base.specs.Bytes.{is_blank}
use Rattle.graph_text.specs.Lines.{unindented}

-- the field that bytes begin with: all up to the first blank
abbrev pub field : List ℕ → List ℕ
field [] = []
field (b ∷ bs) = if is_blank b then [] else b ∷ field bs

-- all from the first blank on
abbrev pub rest : List ℕ → List ℕ
rest [] = []
rest (b ∷ bs) = if is_blank b then b ∷ bs else rest bs

-- what comes behind the field and the blanks that follow
abbrev pub behind : List ℕ → List ℕ
behind bytes = unindented (rest bytes)

-- the number if it is in the range
abbrev pub within : ℕ → ℕ → Option ℕ → Option ℕ
within low high None = None
within low high (Some n) = if nat_le low n && nat_le n high then Some n else None

-- the number of this range that digits write, if the bytes are such digits
abbrev pub number_in : ℕ → ℕ → List ℕ → Option ℕ
number_in low high bytes = within low high (natural_of bytes)

-- what stands between the first two and the last two bytes
abbrev pub between : List ℕ → List ℕ
between bytes = take (length bytes - 4) (drop 2 bytes)

-- what stands between `|{` and the last `}|` where the bytes begin and end so
abbrev pub label_of : List ℕ → Option (List ℕ)
label_of bytes =
    if starts_with nat_eq bytes (codes "|{") && ends_with nat_eq (drop 2 bytes) (codes "}|")
    then Some (between bytes) else None
