-- What a line means: a command, nothing, or the reason why it is refused.
use Rattle.std.specs.Prelude.{◌≡◌, ℕ, ◌+◌, true, nat_eq, nat_lt, if◌then◌else◌, List, [], ◌∷◌, length, take, codes, Option, Some, None, Result, Ok, Err, ⊤}
use Rattle.std.specs.List.{starts_with}
use Rattle.script_text.specs.declared.argument.Arg.{Arg}
use Rattle.script_text.specs.declared.argument.Misfit.{Misfit}
use Rattle.script_text.specs.declared.argument.Misfit.TheVariants.{OtherForm, OutOfRange}
use Rattle.script_text.specs.declared.form.Form.{Form}
use Rattle.script_text.specs.declared.line.TheConstants.{LINE_LIMIT}
use Rattle.script_text.specs.declared.line.Line.{Line}
use Rattle.script_text.specs.declared.line.Line.TheVariants.{Command, Nothing}
use Rattle.script_text.specs.declared.line.LineRefusal.{LineRefusal}
use Rattle.script_text.specs.declared.line.LineRefusal.TheVariants.{LongLine, Syntax, Number, NoMemory}
use Rattle.script_text.specs.Form.{read_arg, left_out, takes_rest}
use Rattle.script_text.specs.Said.{Said}
use Rattle.script_text.specs.Table.{Entry, table, entry_of, forms_of, keeps_any, IsWhole}
use Rattle.script_text.specs.Token.{Token, next_of, tokens_of, behind}

-- how many bytes a line may have
unfoldable pub line_limit : ℕ
line_limit = LINE_LIMIT

-- the arguments of a line, or the fault among them
abbrev pub Args : Type 0
Args = Result (List Arg) LineRefusal

-- An argument in front of the later ones, or the fault: the leftmost token that isn't of its form,
-- and where each is of its form, the leftmost number out of range.
abbrev pub with_later : ℕ → Result Arg Misfit → Args → Args
with_later column (Err OtherForm) later = Err (Syntax column)
with_later column (Err OutOfRange) (Err (Syntax further)) = Err (Syntax further)
with_later column (Err OutOfRange) later = Err (Number column)
with_later column (Ok arg) (Ok later) = Ok (arg ∷ later)
with_later column (Ok arg) (Err fault) = Err fault

-- The arguments of these forms that the tokens are, of which none may be left. An argument that is
-- missing is missed in the column behind the last token.
abbrev pub arguments : List Form → ℕ → List Token → Args
arguments [] missing [] = Ok []
arguments [] missing (token ∷ tokens) = Err (Syntax token.column)
arguments (form ∷ forms) missing [] =
    with_later missing (left_out form) (arguments forms missing [])
arguments (form ∷ forms) missing (token ∷ tokens) =
    with_later token.column (read_arg form token)
    (arguments forms (behind token) (if takes_rest form then [] else tokens))

-- what a line says by a table: a row, and arguments of its forms
pub record Reading : Type 0 where
  pub row : Entry
  pub args : List Arg

-- what is read of a line: nothing, a row with its arguments, or a fault
abbrev pub Read : Type 0
Read = Result (Option Reading) LineRefusal

-- the row and its arguments
abbrev pub reading_of : Entry → Args → Read
reading_of row (Ok args) = Ok (Some (record { row = row; args = args }))
reading_of row (Err fault) = Err fault

-- what a line says whose first token chooses the row, or none
abbrev pub read_row : Option Entry → Token → List Token → Read
read_row None first tokens = Err (Syntax first.column)
read_row (Some row) first tokens = reading_of row (arguments row.forms (behind first) tokens)

-- what the tokens of a line say: nothing where there is none or where the first one begins with `#`
abbrev pub read_tokens : List Entry → List Token → Read
read_tokens rows [] = Ok None
read_tokens rows (first ∷ tokens) =
    if starts_with nat_eq first.bytes (codes "#") then Ok None
    else read_row (entry_of rows first.bytes (next_of tokens)) first tokens

-- what a line says by a table
unfoldable pub read_line : List Entry → List ℕ → Read
read_line rows line =
    if nat_lt line_limit (length line) then Err LongLine else read_tokens rows (tokens_of line)

-- the command of a row and its arguments
abbrev pub meaning_of : Read → Result Line LineRefusal
meaning_of (Ok None) = Ok Nothing
meaning_of (Ok (Some reading)) =
    Ok (Command (record { word = reading.row.word; args = reading.args }))
meaning_of (Err fault) = Err fault

-- what a line means
unfoldable pub line_of : List ℕ → Result Line LineRefusal
line_of line = meaning_of (read_line table line)

-- a command whose arguments keep bytes of the line
pub record KeepsBytes (meaning : Result Line LineRefusal) : Type 0 where
  pub said : Said
  pub is : meaning ≡ Ok (Command said)
  pub keeps : keeps_any (forms_of said.word) ≡ true

-- What is answered to a line of this meaning: the meaning itself, or want of memory in the place of
-- a command whose arguments keep bytes. Want of memory never stands in the place of a fault.
abbrev pub Reads : Result Line LineRefusal → Result Line LineRefusal → Type 0
Reads meaning (Ok line) = meaning ≡ Ok line
Reads meaning (Err LongLine) = meaning ≡ Err LongLine
Reads meaning (Err (Syntax column)) = meaning ≡ Err (Syntax column)
Reads meaning (Err (Number column)) = meaning ≡ Err (Number column)
Reads meaning (Err NoMemory) = KeepsBytes meaning

-- a command in the line has just the arguments that its word takes
abbrev pub IsWholeLine : Line → Type 0
IsWholeLine (Command said) = IsWhole said
IsWholeLine Nothing = ⊤

-- how many bytes tell what a line means, however long it is
unfoldable pub kept_most : ℕ
kept_most = line_limit + 1

-- the bytes of a line that tell what it means
abbrev pub kept_of : List ℕ → List ℕ
kept_of line = take kept_most line
