-- A source, a sink and a store in memory, whose calls fail by a list.
use Rattle.std.specs.Prelude.{ℕ, List, [], ◌∷◌, option_map, find, if◌then◌else◌}
use Rattle.std.specs.Str.{bytes_eq}
use Rattle.std.specs.String.{string_bytes}
use Rattle.std.specs.Prelude.{String, Vec}
use Rattle.leda_edge.specs.Causes.{one_more}
use Rattle.leda_edge.specs.Files.{FileMap}

-- the numbers of the calls that are to fail, how many were made, and how many failed
pub record Calls : Type 0 where
  pub fails : List ℕ
  pub made : ℕ
  pub faults : ℕ

-- after a call that goes well
abbrev pub counted : Calls → Calls
counted calls = record calls { made = one_more calls.made }

-- after a call that fails
abbrev pub counted_failed : Calls → Calls
counted_failed calls = record calls { made = one_more calls.made; faults = one_more calls.faults }

-- what a source has left, the most that one read gives, and its calls
pub record Reading : Type 0 where
  pub left : List ℕ
  pub piece : ℕ
  pub calls : Calls

-- what a sink holds, for how many bytes it has room yet, and its calls
pub record Writing : Type 0 where
  pub bytes : List ℕ
  pub room : ℕ
  pub calls : Calls

-- a file: its name and its bytes
abbrev pub Entry : Type 0
Entry = List ℕ × List ℕ

-- the file of a pair of name and bytes
abbrev pub entry_of : {Z Y : Type 0} → String Z × Vec ℕ Y → Entry
entry_of file = (string_bytes file.0, file.1.items)

-- the file of that name is the first with it
abbrev pub file_in : List Entry → FileMap
file_in entries name = option_map (λ entry. entry.1) (find (λ entry. bytes_eq entry.0 name) entries)

-- the file of that name gets these bytes, and is the last one where it is new
abbrev pub with_file : List ℕ → List ℕ → List Entry → List Entry
with_file name bytes [] = (name, bytes) ∷ []
with_file name bytes (entry ∷ entries) =
    if bytes_eq entry.0 name then (entry.0, bytes) ∷ entries
    else entry ∷ with_file name bytes entries

-- what a store holds, and its calls
pub record Filing : Type 0 where
  pub entries : List Entry
  pub calls : Calls
