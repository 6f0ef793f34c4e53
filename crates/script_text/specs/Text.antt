-- The texts of arguments: names of items and objects, labels, files, modes and kept sorts.
use Rattle.std.specs.Prelude.{◌≡◌, ◌<◌, ℕ, ◌-◌, ◌^◌, Bool, ◌&&◌, ◌||◌, ◌==◌, nat_eq, nat_lt, nat_le, not, is_some, if◌then◌else◌, List, [], ◌∷◌, length, drop, take, slice_index, map, find, codes, bytes_eq, Option, Some, None, option_map, ℤ, pos, negsuc}
use Rattle.std.specs.List.{starts_with, ends_with, list_all}
use Rattle.std.specs.Char.{is_ascii_digit, is_ascii_alphanumeric, is_ascii_graphic}
use Rattle.std.specs.Fmt.{decimal}
use Rattle.std.specs.Str.Parse.{digits_value}
use Rattle.leda_base.specs.Bytes.{is_one_line}
use Rattle.leda_base.specs.declared.name.TheConstants.{NAME_LIMIT, LABEL_LIMIT}
use Rattle.graph_defs.specs.declared.query.Kept.{Kept}
use Rattle.graph_defs.specs.declared.query.Mode.{Mode}
use Rattle.graph_defs.specs.Query.{kept_word}
use Rattle.script_text.specs.declared.text.TheConstants.{FILE_LIMIT, MODES, SORTS}

-- digits that write a number from 1 to 4,294,967,295 without a leading 0
abbrev pub is_item_number : List ℕ → Bool
is_item_number digits =
    (nat_le 1 (length digits) && nat_le (length digits) 10)
    && (not (slice_index digits 0 == 48)
    && (list_all is_ascii_digit digits && nat_lt (digits_value 10 digits) (2 ^ 32)))

-- the number that such digits write
abbrev pub number_of : List ℕ → Option ℕ
number_of digits = if is_item_number digits then Some (digits_value 10 digits) else None

-- the number of an item's name: the letter of its sort, and then the digits
abbrev pub item_number : ℕ → List ℕ → Option ℕ
item_number letter [] = None
item_number letter (b ∷ digits) = if b == letter then number_of digits else None

-- the name of an item: the letter of its sort, and then its number as a reply prints it
abbrev pub IsItemName : ℕ → ℕ → List ℕ → Type 0
IsItemName letter number bytes =
    (0 < number) × (number < 2 ^ 32) × (bytes ≡ letter ∷ decimal number)

-- the number of a node's name, `n` and digits
abbrev pub node_number : List ℕ → Option ℕ
node_number = item_number 110

-- the number of an edge's name, `e` and digits
abbrev pub edge_number : List ℕ → Option ℕ
edge_number = item_number 101

-- the number of a cell's name, `i` and digits
abbrev pub cell_number : List ℕ → Option ℕ
cell_number = item_number 105

-- the name of an item of some sort
abbrev pub is_item : List ℕ → Bool
is_item bytes =
    is_some (node_number bytes) || (is_some (edge_number bytes) || is_some (cell_number bytes))

-- a letter, a digit or `_`
abbrev pub is_name_byte : ℕ → Bool
is_name_byte b = is_ascii_alphanumeric b || b == 95

-- the name of an object: 1 to 32 letters, digits or `_`, the first no digit, and not the name of an
-- item
abbrev pub is_name : List ℕ → Bool
is_name bytes =
    (nat_le 1 (length bytes) && nat_le (length bytes) NAME_LIMIT)
    && (list_all is_name_byte bytes
    && (not (is_ascii_digit (slice_index bytes 0)) && not (is_item bytes)))

-- a label: at most 60,000 bytes, none of which ends a line
abbrev pub is_label : List ℕ → Bool
is_label bytes = nat_le (length bytes) LABEL_LIMIT && is_one_line bytes

-- what stands between the first two and the last two bytes
abbrev pub between : List ℕ → List ℕ
between bytes = take (length bytes - 4) (drop 2 bytes)

-- the label that bytes from `|{` to `}|` write
abbrev pub label_of : List ℕ → Option (List ℕ)
label_of bytes =
    if starts_with nat_eq bytes (codes "|{")
    && (ends_with nat_eq (drop 2 bytes) (codes "}|") && is_label (between bytes))
    then Some (between bytes) else None

-- the name of a file: 1 to 255 bytes from `!` to `~`
abbrev pub is_file : List ℕ → Bool
is_file bytes =
    (nat_le 1 (length bytes) && nat_le (length bytes) FILE_LIMIT) && list_all is_ascii_graphic bytes

-- an integer from -2^63 to 2^63 - 1
abbrev pub is_i64 : ℤ → Bool
is_i64 (pos n) = nat_lt n (2 ^ 63)
is_i64 (negsuc n) = nat_lt n (2 ^ 63)

-- what stands beside the spelling that the bytes are
abbrev pub spelled : {A : Type 0} → List (List ℕ × A) → List ℕ → Option A
spelled pairs bytes = option_map (λ pair. pair.1) (find (λ pair. bytes_eq pair.0 bytes) pairs)

-- the mode that bytes spell
abbrev pub mode_of : List ℕ → Option Mode
mode_of = spelled (map (λ pair. (pair.0.now, pair.1)) MODES)

-- the sort of a kept answer that bytes spell
abbrev pub sort_of : List ℕ → Option Kept
sort_of bytes = find (λ kept. bytes_eq (kept_word kept) bytes) SORTS
