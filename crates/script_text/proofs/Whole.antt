-- A row of the table and the arguments that a line says of it are a command that is whole.
use Rattle.std.proofs.Common.{◌≡◌, ◌<◌, ℕ, ◌&&◌, ◌||◌, List, [], ◌∷◌, length, drop, Option, Some, None, Result, Ok, Err, IfSome, IfOk, IsErrAnd, IsTrue, subst, ◌∙◌, refl, sym, ap, suc, Bool, true, false, nat_lt, if◌then◌else◌, option_map, nat_eq, codes, ℤ}
use Rattle.std.specs.List.{AllZip, list_any, starts_with, ends_with}
use Rattle.std.specs.Option.{option_or}
use Rattle.leda_base.specs.Decimal.{integer_of}
use Rattle.script_text.specs.declared.argument.Arg.{Arg}
use Rattle.script_text.specs.declared.argument.Arg.TheVariants as args
use Rattle.script_text.specs.declared.argument.Misfit.{Misfit}
use Rattle.script_text.specs.declared.argument.Misfit.TheVariants.{OtherForm, OutOfRange}
use Rattle.script_text.specs.declared.form.Form.{Form}
use Rattle.script_text.specs.declared.form.Form.TheVariants as forms
use Rattle.script_text.specs.declared.line.Line.{Line}
use Rattle.script_text.specs.declared.line.LineRefusal.{LineRefusal}
use Rattle.script_text.specs.declared.line.LineRefusal.TheVariants.{LongLine, Syntax, Number, NoMemory}
use Rattle.script_text.specs.Text.{item_number, is_name, is_label, between, label_of, is_file, is_i64, mode_of, sort_of}
use Rattle.script_text.specs.Borrowed.{has_bytes, IsEntry}
use Rattle.script_text.specs.Said.{Said}
use Rattle.script_text.specs.Token.{Token, behind, next_of, tokens_of}
use Rattle.script_text.specs.Form.{or_other, number_arg, read_arg, left_out, takes_rest, keeps_bytes, IsOfForm, FitsForms}
use Rattle.script_text.specs.Table.{Entry, table, entry_of, IsWhole}
use Rattle.script_text.specs.Line.{Args, Read, with_later, arguments, Reading, reading_of, read_row, read_tokens, read_line, line_limit, meaning_of, line_of, Reads}
use Rattle.script_text.proofs.Entries.{entry_of-each, table-each}
use Rattle.script_text.proofs.Names.{item_number-Some}

-- the misfit or an argument of the form
abbrev Fits : Form → Result Arg Misfit → Type 0
Fits form read = IfOk read (λ arg. IsOfForm arg form)

-- an argument that is made of what was found
made_fits : {A : Type 0} (form : Form) (make : A → Arg) (P : A → Type 0)
    → ((x : A) → P x → IsOfForm (make x) form)
    → (found : Option A) → IfSome found P → Fits form (or_other (option_map make found))
made_fits form make P of_form None h = tt
made_fits form make P of_form (Some x) h = of_form x h

-- the number of an item isn't 0
number-positive : (letter : ℕ) (bytes : List ℕ)
    → IfSome (item_number letter bytes) (λ number. 0 < number)
number-positive letter bytes = by_case (item_number letter bytes) refl
  where
    by_case : (found : Option ℕ) → item_number letter bytes ≡ found
        → IfSome found (λ number. 0 < number)
    by_case None e = tt
    by_case (Some number) e = (item_number-Some letter number bytes e).0

-- an argument that is read where a test passes
tested_fits : (form : Form) (arg : Arg) (test : Bool) → (test ≡ true → IsOfForm arg form)
    → Fits form (if test then Ok arg else Err OtherForm)
tested_fits form arg true of_form = of_form refl
tested_fits form arg false of_form = tt

-- a label that was read passes its test
label-passes : (bytes : List ℕ) → IfSome (label_of bytes) (λ label. IsTrue (is_label label))
label-passes bytes =
    by_tests (starts_with nat_eq bytes (codes "|{")) (ends_with nat_eq (drop 2 bytes) (codes "}|"))
    (is_label (between bytes)) refl
  where
    by_tests : (opens closes is : Bool) → is_label (between bytes) ≡ is
        → IfSome (if opens && (closes && is) then Some (between bytes) else None)
        (λ label. IsTrue (is_label label))
    by_tests true true true e = e
    by_tests true true false e = tt
    by_tests true false is e = tt
    by_tests false closes is e = tt

element_fits : (nodes edges : Option ℕ) → IfSome nodes (λ n. 0 < n) → IfSome edges (λ n. 0 < n)
    → (form : Form) → ((n : ℕ) → 0 < n → IsOfForm (args.Node n) form)
    → ((n : ℕ) → 0 < n → IsOfForm (args.Edge n) form)
    → Fits form (or_other (option_or (option_map args.Node nodes) (option_map args.Edge edges)))
element_fits None None h i form node edge = tt
element_fits None (Some n) h i form node edge = edge n i
element_fits (Some n) edges h i form node edge = node n h

number_fits : (found : Option ℤ) (form : Form) → ((z : ℤ) → IsOfForm (args.Num z) form)
    → Fits form (number_arg found)
number_fits None form of_form = tt
number_fits (Some value) form of_form = by_test (is_i64 value)
  where
    by_test : (v : Bool) → Fits form (if v then Ok (args.Num value) else Err OutOfRange)
    by_test true = of_form value
    by_test false = tt

choice_fits : (test : Bool) (found : Option ℤ)
    → Fits forms.NumOrLabels (if test then Ok args.Labels else number_arg found)
choice_fits true found = tt
choice_fits false found = number_fits found forms.NumOrLabels (λ z. tt)

any_fits : {A : Type 0} (found : Option A) → IfSome found (λ x. Unit {0})
any_fits None = tt
any_fits (Some x) = tt

-- an argument that was read is of the form
read_arg-fits : (form : Form) (token : Token) → Fits form (read_arg form token)
read_arg-fits (forms.Node sight) token = made_fits _ args.Node (λ n. 0 < n) (λ n h. h) _
    (number-positive 110 token.bytes)
read_arg-fits (forms.Edge sight) token = made_fits _ args.Edge (λ n. 0 < n) (λ n h. h) _
    (number-positive 101 token.bytes)
read_arg-fits (forms.Element sight) token =
    element_fits _ _ (number-positive 110 token.bytes) (number-positive 101 token.bytes) _
    (λ n h. h) (λ n h. h)
read_arg-fits (forms.Cell kinds) token = made_fits _ args.Cell (λ n. 0 < n) (λ n h. h) _
    (number-positive 105 token.bytes)
read_arg-fits (forms.Object kinds) token = tested_fits _ _ (is_name token.bytes) (λ e. e)
read_arg-fits forms.NewName token = tested_fits _ _ (is_name token.bytes) (λ e. e)
read_arg-fits forms.Num token = number_fits (integer_of token.bytes) forms.Num (λ z. tt)
read_arg-fits forms.NumOrLabels token = choice_fits _ (integer_of token.bytes)
read_arg-fits forms.Label token = made_fits _ args.Label (λ b. IsTrue (is_label b)) (λ b h. h) _
    (label-passes token.tail)
read_arg-fits forms.OptionalLabel token =
    made_fits _ args.Label (λ b. IsTrue (is_label b)) (λ b h. h) _ (label-passes token.tail)
read_arg-fits forms.File token = tested_fits _ _ (is_file token.bytes) (λ e. e)
read_arg-fits forms.Mode token = made_fits _ args.Mode (λ m. Unit {0}) (λ m h. h)
    (mode_of token.bytes) (any_fits _)
read_arg-fits forms.Kept token = made_fits _ args.Kept (λ m. Unit {0}) (λ m h. h)
    (sort_of token.bytes) (any_fits _)

-- one that is left out likewise
left_out-fits : (form : Form) → Fits form (left_out form)
left_out-fits (forms.Node sight) = tt
left_out-fits (forms.Edge sight) = tt
left_out-fits (forms.Element sight) = tt
left_out-fits (forms.Cell kinds) = tt
left_out-fits (forms.Object kinds) = tt
left_out-fits forms.NewName = tt
left_out-fits forms.Num = tt
left_out-fits forms.NumOrLabels = tt
left_out-fits forms.Label = tt
left_out-fits forms.OptionalLabel = refl
left_out-fits forms.File = tt
left_out-fits forms.Mode = tt
left_out-fits forms.Kept = tt

-- one argument in front of those that fit
fits_later : (form : Form) (forms : List Form) (column : ℕ) (read : Result Arg Misfit)
    (later : Args)
    (args : List Arg) → Fits form read → ((l : List Arg) → later ≡ Ok l → FitsForms l forms)
    → with_later column read later ≡ Ok args → FitsForms args (form ∷ forms)
fits_later form forms column (Err OtherForm) later args fits rest e = cc
fits_later form forms column (Err OutOfRange) (Ok l) args fits rest e = cc
fits_later form forms column (Err OutOfRange) (Err LongLine) args fits rest e = cc
fits_later form forms column (Err OutOfRange) (Err (Syntax c)) args fits rest e = cc
fits_later form forms column (Err OutOfRange) (Err (Number c)) args fits rest e = cc
fits_later form forms column (Err OutOfRange) (Err NoMemory) args fits rest e = cc
fits_later form forms column (Ok a) (Err fault) args fits rest e = cc
fits_later form forms column (Ok a) (Ok l) [] fits rest e = cc
fits_later form forms column (Ok a) (Ok l) (b ∷ bs) fits rest e =
    let same : a ≡ b = cc in
    let tail : Ok l ≡ Ok bs = cc in
    let others : FitsForms bs forms = rest bs tail in
    record {
      count = ap suc others.count;
      each =
          (subst (λ (x : Arg). IsOfForm x form) same fits, others.each);
    }

-- the arguments that were read are of the forms
pub fits : (forms : List Form) (missing : ℕ) (tokens : List Token) (args : List Arg)
    → arguments forms missing tokens ≡ Ok args → FitsForms args forms
fits [] missing [] [] e = record { count = refl; each = tt }
fits [] missing [] (a ∷ args) e = cc
fits [] missing (token ∷ tokens) args e = cc
fits (form ∷ forms) missing [] args e =
    fits_later form forms missing (left_out form) (arguments forms missing []) args
    (left_out-fits form) (fits forms missing []) e
fits (form ∷ forms) missing (token ∷ tokens) args e =
    fits_later form forms token.column (read_arg form token)
    (arguments forms (behind token) (if takes_rest form then [] else tokens))
    args (read_arg-fits form token) (fits forms (behind token)
    (if takes_rest form then [] else tokens)) e

-- an argument with bytes is of a form that keeps bytes
keeps_one : (arg : Arg) (form : Form) → IsOfForm arg form → has_bytes arg ≡ true
    → keeps_bytes form ≡ true
keeps_one (args.Name name) (forms.Object kinds) of_form e = refl
keeps_one (args.Name name) forms.NewName of_form e = refl
keeps_one (args.Name name) form of_form e = absurd of_form
keeps_one (args.Label label) forms.Label of_form e = refl
keeps_one (args.Label label) forms.OptionalLabel of_form e = refl
keeps_one (args.Label label) form of_form e = absurd of_form
keeps_one (args.File file) forms.File of_form e = refl
keeps_one (args.File file) form of_form e = absurd of_form
keeps_one arg form of_form e = cc

-- where an argument has bytes, a form keeps bytes
keeps_some : (args : List Arg) (forms : List Form) → AllZip IsOfForm args forms
    → list_any has_bytes args ≡ true
    → list_any keeps_bytes forms ≡ true
keeps_some [] forms each e = cc
keeps_some (arg ∷ args) [] each e = absurd each
keeps_some (arg ∷ args) (form ∷ forms) each e = by_test (has_bytes arg) refl e
    (keeps_some args forms each.1)
  where
    first : (v w : Bool) → v ≡ true → (v || w) ≡ true
    first true w h = refl
    first false w h = cc

    later : (v w : Bool) → w ≡ true → (v || w) ≡ true
    later true w h = refl
    later false w h = h

    by_test : (v : Bool) → has_bytes arg ≡ v → (v || list_any has_bytes args) ≡ true
        → (list_any has_bytes args ≡ true → list_any keeps_bytes forms ≡ true)
        → (keeps_bytes form || list_any keeps_bytes forms) ≡ true
    by_test true is h others = first _ _ (keeps_one arg form each.0 is)
    by_test false is h others = later _ _ (others h)

-- no fault among the arguments is want of memory
with_later-fault : (column : ℕ) (read : Result Arg Misfit) (later : Args)
    → (later ≡ Err NoMemory → ⊥) → with_later column read later ≡ Err NoMemory → ⊥
with_later-fault column (Err OtherForm) later h e = cc
with_later-fault column (Err OutOfRange) (Ok l) h e = cc
with_later-fault column (Err OutOfRange) (Err LongLine) h e = cc
with_later-fault column (Err OutOfRange) (Err (Syntax c)) h e = cc
with_later-fault column (Err OutOfRange) (Err (Number c)) h e = cc
with_later-fault column (Err OutOfRange) (Err NoMemory) h e = cc
with_later-fault column (Ok a) (Ok l) h e = cc
with_later-fault column (Ok a) (Err fault) h e = h (let is : fault ≡ NoMemory = cc in ap Err is)

arguments-fault : (forms : List Form) (missing : ℕ) (tokens : List Token)
    → arguments forms missing tokens ≡ Err NoMemory → ⊥
arguments-fault [] missing [] e = cc
arguments-fault [] missing (token ∷ tokens) e = cc
arguments-fault (form ∷ forms) missing [] e =
    with_later-fault missing (left_out form) (arguments forms missing [])
    (arguments-fault forms missing []) e
arguments-fault (form ∷ forms) missing (token ∷ tokens) e =
    with_later-fault token.column (read_arg form token)
    (arguments forms (behind token) (if takes_rest form then [] else tokens))
    (arguments-fault forms (behind token) (if takes_rest form then [] else tokens)) e

-- a row of the table, with arguments of its forms
pub record IsReading (reading : Reading) : Type 0 where
  pub row : IsEntry reading.row
  pub args : FitsForms reading.args reading.row.forms

-- what is read of a line: nothing, a reading, or a fault other than want of memory
abbrev pub IsRead : Read → Type 0
IsRead (Ok None) = Unit {0}
IsRead (Ok (Some reading)) = IsReading reading
IsRead (Err fault) = fault ≡ NoMemory → ⊥

reading_of-read : (row : Entry) (read : Args) → IsEntry row
    → ((args : List Arg) → read ≡ Ok args → FitsForms args row.forms) → (read ≡ Err NoMemory → ⊥)
    → IsRead (reading_of row read)
reading_of-read row (Ok args) is fit fault = record { row = is; args = fit args refl }
reading_of-read row (Err e) is fit fault = λ same. fault (ap Err same)

read_row-read : (chosen : Option Entry) (first : Token) (tokens : List Token)
    → IfSome chosen IsEntry
    → IsRead (read_row chosen first tokens)
read_row-read None first tokens is = λ e. cc
read_row-read (Some row) first tokens is =
    reading_of-read row (arguments row.forms (behind first) tokens) is
    (fits row.forms (behind first) tokens) (arguments-fault row.forms (behind first) tokens)

read_tokens-read : (tokens : List Token) → IsRead (read_tokens table tokens)
read_tokens-read [] = tt
read_tokens-read (first ∷ tokens) = by_test (starts_with nat_eq first.bytes (codes "#"))
  where
    by_test : (v : Bool) → IsRead (if v then Ok None else read_row
        (entry_of table first.bytes (next_of tokens)) first tokens)
    by_test true = tt
    by_test false = read_row-read _ first tokens
        (entry_of-each IsEntry table first.bytes (next_of tokens) table-each)

-- what the table says of a line
pub read_line-read : (line : List ℕ) → IsRead (read_line table line)
unfolding read_line
read_line-read line = by_test (nat_lt line_limit (length line))
  where
    by_test : (v : Bool) → IsRead (if v then Err LongLine else read_tokens table (tokens_of line))
    by_test true = λ e. cc
    by_test false = read_tokens-read (tokens_of line)

-- where the code's table is the table
read_is : (rows : List Entry) (line : List ℕ) (answer : Read) → rows ≡ table
    → answer ≡ read_line rows line → read_line table line ≡ answer
read_is rows line answer rows_are h = sym (h ∙ ap (λ r. read_line r line) rows_are)

-- what was read is a row of the table with arguments of its forms
pub reading_is : (rows : List Entry) (line : List ℕ) (found : Option Reading) (reading : Reading)
    → rows ≡ table
    → Ok found ≡ read_line rows line → found ≡ Some reading → IsReading reading
reading_is rows line found reading rows_are h is =
    subst IsRead (read_is rows line (Ok found) rows_are h ∙ ap Ok is) (read_line-read line)

-- a fault is answered by itself
pub fault_reads : (rows : List Entry) (line : List ℕ) (fault : LineRefusal)
    (answer : Result Line LineRefusal) → rows ≡ table
    → Err fault ≡ read_line rows line → IsErrAnd answer (λ refusal. refusal ≡ fault)
    → Reads (line_of line) answer
unfolding line_of
fault_reads rows line fault (Ok l) rows_are h is = absurd is
fault_reads rows line fault (Err refusal) rows_are h is =
    by_fault refusal (read_is rows line (Err refusal) rows_are (ap Err is ∙ h))
  where
    by_fault : (f : LineRefusal) → read_line table line ≡ Err f → Reads (line_of line) (Err f)
    by_fault LongLine e = ap meaning_of e
    by_fault (Syntax column) e = ap meaning_of e
    by_fault (Number column) e = ap meaning_of e
    by_fault NoMemory e = absurd (subst IsRead e (read_line-read line) refl)

-- want of memory is answered to a command whose arguments keep bytes
pub lack_reads : (rows : List Entry) (line : List ℕ) (found : Option Reading) (reading : Reading)
    (answer : Result Line LineRefusal) → rows ≡ table → Ok found ≡ read_line rows line
    → found ≡ Some reading
    → list_any has_bytes reading.args ≡ true → IsErrAnd answer (λ refusal. refusal ≡ NoMemory)
    → Reads (line_of line) answer
unfolding line_of
lack_reads rows line found reading (Ok l) rows_are h is bytes lack = absurd lack
lack_reads rows line found reading (Err refusal) rows_are h is bytes lack = rw lack (record {
  said = record { word = reading.row.word; args = reading.args };
  is = ap meaning_of (read_is rows line (Ok found) rows_are h ∙ ap Ok is);
  keeps = rw (← whole.row) (keeps_some reading.args reading.row.forms whole.args.each bytes);
})
  where
    whole : IsReading reading
    whole = reading_is rows line found reading rows_are h is

-- a command of what was read is whole
pub whole_is : (said : Said) (reading : Reading) → IsReading reading → said.word ≡ reading.row.word
    → said.args ≡ reading.args
    → IsWhole said
whole_is said reading whole word args = rw (word, args, ← whole.row) whole.args
