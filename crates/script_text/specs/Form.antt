-- Which argument a token is, by the form that is asked for, and of which form an argument is.
use Rattle.std.specs.Prelude.{◌≡◌, ◌<◌, ℕ, Bool, true, false, if◌then◌else◌, List, [], length, codes, bytes_eq, Option, Some, None, option_map, Result, Ok, Err, IsTrue, ⊤, ℤ}
use Rattle.std.specs.List.{AllZip}
use Rattle.std.specs.Option.{option_or, ok_or}
use Rattle.leda_base.specs.Decimal.{integer_of}
use Rattle.script_text.specs.declared.argument.Arg.{Arg}
use Rattle.script_text.specs.declared.argument.Arg.TheVariants as args
use Rattle.script_text.specs.declared.argument.Misfit.{Misfit}
use Rattle.script_text.specs.declared.argument.Misfit.TheVariants.{OtherForm, OutOfRange}
use Rattle.script_text.specs.declared.form.Form.{Form}
use Rattle.script_text.specs.declared.form.Form.TheVariants as forms
use Rattle.script_text.specs.Text.{node_number, edge_number, cell_number, is_name, is_label, label_of, is_file, is_i64, mode_of, sort_of}
use Rattle.script_text.specs.Token.{Token}

-- the argument, or a token of another form
abbrev pub or_other : Option Arg → Result Arg Misfit
or_other arg = ok_or arg OtherForm

-- the name of a node or of an edge
abbrev pub element_arg : List ℕ → Option Arg
element_arg bytes =
    option_or (option_map args.Node (node_number bytes)) (option_map args.Edge (edge_number bytes))

-- the name of an object
abbrev pub name_arg : List ℕ → Result Arg Misfit
name_arg bytes = if is_name bytes then Ok (args.Name bytes) else Err OtherForm

-- a number, if it is one, and in the range of 64 bits
abbrev pub number_arg : Option ℤ → Result Arg Misfit
number_arg None = Err OtherForm
number_arg (Some value) = if is_i64 value then Ok (args.Num value) else Err OutOfRange

-- the word `labels`, or else a number
abbrev pub labels_arg : List ℕ → Result Arg Misfit
labels_arg bytes =
    if bytes_eq bytes (codes "labels") then Ok args.Labels else number_arg (integer_of bytes)

-- the name of a file
abbrev pub file_arg : List ℕ → Result Arg Misfit
file_arg bytes = if is_file bytes then Ok (args.File bytes) else Err OtherForm

-- the argument that a token is; or the token is of another form, or a number out of range
abbrev pub read_arg : Form → Token → Result Arg Misfit
read_arg (forms.Node sight) token = or_other (option_map args.Node (node_number token.bytes))
read_arg (forms.Edge sight) token = or_other (option_map args.Edge (edge_number token.bytes))
read_arg (forms.Element sight) token = or_other (element_arg token.bytes)
read_arg (forms.Cell kinds) token = or_other (option_map args.Cell (cell_number token.bytes))
read_arg (forms.Object kinds) token = name_arg token.bytes
read_arg forms.NewName token = name_arg token.bytes
read_arg forms.Num token = number_arg (integer_of token.bytes)
read_arg forms.NumOrLabels token = labels_arg token.bytes
read_arg forms.Label token = or_other (option_map args.Label (label_of token.tail))
read_arg forms.OptionalLabel token = or_other (option_map args.Label (label_of token.tail))
read_arg forms.File token = file_arg token.bytes
read_arg forms.Mode token = or_other (option_map args.Mode (mode_of token.bytes))
read_arg forms.Kept token = or_other (option_map args.Kept (sort_of token.bytes))

-- the argument where the line has no token for it: a label that may be left out is then empty
abbrev pub left_out : Form → Result Arg Misfit
left_out forms.OptionalLabel = Ok (args.Label [])
left_out form = Err OtherForm

-- an argument of the form takes all that is left of the line
abbrev pub takes_rest : Form → Bool
takes_rest forms.Label = true
takes_rest forms.OptionalLabel = true
takes_rest form = false

-- an argument of the form keeps bytes of the line, which takes memory
abbrev pub keeps_bytes : Form → Bool
keeps_bytes (forms.Object kinds) = true
keeps_bytes forms.NewName = true
keeps_bytes forms.Label = true
keeps_bytes forms.OptionalLabel = true
keeps_bytes forms.File = true
keeps_bytes form = false

-- the argument is of the form
abbrev pub IsOfForm : Arg → Form → Type 0
IsOfForm (args.Node number) (forms.Node sight) = 0 < number
IsOfForm (args.Edge number) (forms.Edge sight) = 0 < number
IsOfForm (args.Node number) (forms.Element sight) = 0 < number
IsOfForm (args.Edge number) (forms.Element sight) = 0 < number
IsOfForm (args.Cell number) (forms.Cell kinds) = 0 < number
IsOfForm (args.Name name) (forms.Object kinds) = IsTrue (is_name name)
IsOfForm (args.Name name) forms.NewName = IsTrue (is_name name)
IsOfForm (args.Num value) forms.Num = ⊤
IsOfForm (args.Num value) forms.NumOrLabels = ⊤
IsOfForm args.Labels forms.NumOrLabels = ⊤
IsOfForm (args.Label label) forms.Label = IsTrue (is_label label)
IsOfForm (args.Label label) forms.OptionalLabel = IsTrue (is_label label)
IsOfForm (args.File file) forms.File = IsTrue (is_file file)
IsOfForm (args.Mode mode) forms.Mode = ⊤
IsOfForm (args.Kept sort) forms.Kept = ⊤
IsOfForm arg form = ⊥

-- there is one argument for each form, of that form
pub record FitsForms (args : List Arg) (forms : List Form) : Type 0 where
  pub count : length args ≡ length forms
  pub each : AllZip IsOfForm args forms
