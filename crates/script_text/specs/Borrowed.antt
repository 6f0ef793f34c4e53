-- Private: rows, tokens and arguments as they stand in a line and in the code's table, as lists.
use Rattle.std.specs.Prelude.{◌≡◌, ℕ, ◌+◌, ◌≤◌, Bool, true, false, nat_le, List, [], ◌∷◌, length, drop, Option, Some, None, Result, Ok, Err}
use Rattle.std.specs.List.{list_all}
use Rattle.std.specs.Borrow.{Bor}
use Rattle.script_text.specs.declared.line.TheConstants.{LINE_LIMIT}
use Rattle.script_text.specs.declared.argument.Arg.{Arg}
use Rattle.script_text.specs.declared.argument.Arg.TheVariants as args
use Rattle.script_text.specs.declared.argument.ArgRef.{ArgRef}
use Rattle.script_text.specs.declared.argument.ArgRef.TheVariants as refs
use Rattle.script_text.specs.declared.argument.Misfit.{Misfit}
use Rattle.script_text.specs.declared.form.Form.{Form}
use Rattle.script_text.specs.declared.table.Memory.{Memory}
use Rattle.script_text.specs.declared.table.TheConstants.{FORM_LIMIT}
use Rattle.script_text.specs.declared.token.Token.{Token as TokenRef}
use Rattle.script_text.specs.declared.word.Word.{Word}
use Rattle.script_text.specs.Table.{Entry, forms_of}
use Rattle.script_text.specs.Line.{with_later, arguments}
use Rattle.script_text.specs.Token.{Token, Unread, tokens_from}

-- a row of the code's table
abbrev pub entry_seen : Bor (List ℕ) × Word × Bor (List Form) × Memory → Entry
entry_seen entry =
    record { spelling = entry.0.now; word = entry.1; forms = entry.2.now; memory = entry.3 }

-- a token in the line
abbrev pub token_seen : TokenRef → Token
token_seen token = record { column = token.column; bytes = token.bytes.now; tail = token.tail.now }

-- the token and those behind it, and none where there is none
abbrev pub tokens_seen : Option TokenRef → List Token
tokens_seen None = []
tokens_seen (Some token) =
    let len = length token.bytes.now in
    token_seen token ∷ tokens_from (token.column + len) (drop len token.tail.now)

-- the token is a part of its tail, which ends within a line
abbrev pub IsWithin : TokenRef → Type 0
IsWithin token = (length token.bytes.now ≤ length token.tail.now)
    × (token.column + length token.tail.now ≤ LINE_LIMIT + 1)

-- an argument in the line
abbrev pub arg_seen : ArgRef → Arg
arg_seen (refs.Node number) = args.Node number
arg_seen (refs.Edge number) = args.Edge number
arg_seen (refs.Cell number) = args.Cell number
arg_seen (refs.Name name) = args.Name name.now
arg_seen (refs.Num value) = args.Num value
arg_seen (refs.Label label) = args.Label label.now
arg_seen refs.Labels = args.Labels
arg_seen (refs.File file) = args.File file.now
arg_seen (refs.Mode mode) = args.Mode mode
arg_seen (refs.Kept sort) = args.Kept sort

-- an argument in the line, or a misfit
abbrev pub read_seen : Result ArgRef Misfit → Result Arg Misfit
read_seen (Ok arg) = Ok (arg_seen arg)
read_seen (Err misfit) = Err misfit

-- the argument has bytes, which it keeps in memory of its own
abbrev pub has_bytes : Arg → Bool
has_bytes (args.Name name) = true
has_bytes (args.Label label) = true
has_bytes (args.File file) = true
has_bytes arg = false

-- no row asks for more arguments than there is room for
abbrev pub are_short : List Entry → Bool
are_short rows = list_all (λ entry. nat_le (length entry.forms) FORM_LIMIT) rows

-- the forms of the row are those that its word takes
abbrev pub IsEntry : Entry → Type 0
IsEntry entry = entry.forms ≡ forms_of entry.word

-- What reading the next argument tells, whatever forms come later: what was read, at its column,
-- stands in front of their arguments.
pub record ReadsNext (form : Form) (old : Unread) (column : ℕ) (read : Result Arg Misfit)
    (new : Unread) : Type 0 where
  pub later : (forms : List Form) → arguments (form ∷ forms) old.column old.tokens
      ≡ with_later column read (arguments forms new.column new.tokens)
