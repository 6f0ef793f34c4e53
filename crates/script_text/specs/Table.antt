-- The table of commands.
use Rattle.std.specs.Prelude.{ℕ, Bool, true, false, ◌&&◌, ◌||◌, List, [], ◌∷◌, map, find, bytes_eq, Option, Some, None, Result, Ok, Err}
use Rattle.std.specs.List.{list_any}
use Rattle.std.specs.Option.{option_or, option_map_or}
use Rattle.script_text.specs.contracts.word.WordPartialEq.TheImpl as words
use Rattle.script_text.specs.declared.argument.Arg.{Arg}
use Rattle.script_text.specs.declared.argument.Misfit.{Misfit}
use Rattle.script_text.specs.declared.argument.Misfit.TheVariants.{OtherForm, OutOfRange}
use Rattle.script_text.specs.declared.form.Form.{Form}
use Rattle.script_text.specs.declared.table.Memory.{Memory}
use Rattle.script_text.specs.declared.table.Memory.TheVariants.{NotTaken, Taken, TakenByReply}
use Rattle.script_text.specs.declared.table.TheConstants.{TABLE}
use Rattle.script_text.specs.declared.word.Word.{Word}
use Rattle.script_text.specs.Form.{read_arg, keeps_bytes, FitsForms}
use Rattle.script_text.specs.Said.{Said}
use Rattle.script_text.specs.Token.{Token}

-- a command's row: how its word is spelled, the word, the forms of its arguments in order, and
-- whether it takes memory
pub record Entry : Type 0 where
  pub spelling : List ℕ
  pub word : Word
  pub forms : List Form
  pub memory : Memory

-- the table, which is the constant of the code
abbrev pub table : List Entry
table = map
    (λ row. record { spelling = row.0.now; word = row.1; forms = row.2.now; memory = row.3 })
    TABLE

-- the token isn't of another form
abbrev pub is_read : Result Arg Misfit → Bool
is_read (Ok arg) = true
is_read (Err OutOfRange) = true
is_read (Err OtherForm) = false

-- the arguments of these forms may begin with the token
abbrev pub may_begin : List Form → Option Token → Bool
may_begin [] next = true
may_begin (form ∷ forms) None = true
may_begin (form ∷ forms) (Some token) = is_read (read_arg form token)

-- The row that a line's first two tokens choose: of the rows of this spelling the first one whose
-- arguments may begin with the second token, or else the first one.
abbrev pub entry_of : List Entry → List ℕ → Option Token → Option Entry
entry_of rows spelling next =
    option_or (find (λ entry. bytes_eq entry.spelling spelling && may_begin entry.forms next) rows)
    (find (λ entry. bytes_eq entry.spelling spelling) rows)

-- the row of a word; words are compared by their `==`
abbrev pub entry_with : Word → Option Entry
entry_with word = find (λ entry. (words.ghosts).eq entry.word word) table

-- the forms of the arguments that a word takes, in order
abbrev pub forms_of : Word → List Form
forms_of word = option_map_or (λ entry. entry.forms) (entry_with word) []

-- an argument of these forms keeps bytes, so that reading them may take memory
abbrev pub keeps_any : List Form → Bool
keeps_any forms = list_any keeps_bytes forms

-- a command that takes as much may be answered by want of memory when it runs
abbrev pub is_taken : Memory → Bool
is_taken NotTaken = false
is_taken Taken = true
is_taken TakenByReply = true

-- the text of the reply may be of any length
abbrev pub is_by_reply : Memory → Bool
is_by_reply NotTaken = false
is_by_reply Taken = false
is_by_reply TakenByReply = true

-- a line of the row may be answered by want of memory, when its arguments are read or when it runs
abbrev pub may_lack : Entry → Bool
may_lack entry = keeps_any entry.forms || is_taken entry.memory

-- the same of a word
abbrev pub may_lack_memory : Word → Bool
may_lack_memory word = option_map_or may_lack (entry_with word) false

-- the reply to a command with the word may be of any length
abbrev pub may_reply_long : Word → Bool
may_reply_long word = option_map_or (λ entry. is_by_reply entry.memory) (entry_with word) false

-- the command has just the arguments that its word takes
abbrev pub IsWhole : Said → Type 0
IsWhole said = FitsForms said.args (forms_of said.word)
