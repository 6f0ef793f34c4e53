-- The arguments of the forms that are left, behind those that were read.
use Rattle.std.proofs.Common.{◌≡◌, ℕ, ◌+◌, ◌<◌, ◌≤◌, List, [], ◌∷◌, ◌++◌, length, get_or, drop, Option, Some, None, Result, Ok, Err, refl, ◌∙◌, ap, append_assoc, append-nil}
use Rattle.std.specs.Option.{option_or}
use Rattle.std.proofs.lemmas.List.{drop_more, drop_all}
use Rattle.script_text.specs.declared.argument.Arg.{Arg}
use Rattle.script_text.specs.declared.argument.Misfit.{Misfit}
use Rattle.script_text.specs.declared.argument.Misfit.TheVariants.{OtherForm, OutOfRange}
use Rattle.script_text.specs.declared.form.Form.{Form}
use Rattle.script_text.specs.declared.line.LineRefusal.TheVariants.{LongLine, Syntax, Number, NoMemory}
use Rattle.script_text.specs.Token.{Token, Unread}
use Rattle.script_text.specs.Borrowed.{ReadsNext}
use Rattle.script_text.specs.Line.{Args, with_later, arguments}

-- the arguments that were read, and then the later ones; or the fault among those, where it is of
-- the syntax; or else the column of the first number out of range among those that were read
abbrev pub with_front : Option ℕ → List Arg → Args → Args
with_front number front (Err (Syntax column)) = Err (Syntax column)
with_front (Some column) front later = Err (Number column)
with_front None front (Ok later) = Ok (front ++ later)
with_front None front (Err fault) = Err fault

-- an argument that was read
front-read : (number : Option ℕ) (front : List Arg) (column : ℕ) (arg : Arg) (later : Args)
    → with_front number front (with_later column (Ok arg) later)
    ≡ with_front number (front ++ arg ∷ []) later
front-read None front column arg (Ok later) = simp append_assoc
front-read None front column arg (Err LongLine) = refl
front-read None front column arg (Err (Syntax c)) = refl
front-read None front column arg (Err (Number c)) = refl
front-read None front column arg (Err NoMemory) = refl
front-read (Some n) front column arg (Ok later) = refl
front-read (Some n) front column arg (Err LongLine) = refl
front-read (Some n) front column arg (Err (Syntax c)) = refl
front-read (Some n) front column arg (Err (Number c)) = refl
front-read (Some n) front column arg (Err NoMemory) = refl

-- a number out of range
front-range : (number : Option ℕ) (front : List Arg) (column : ℕ) (later : Args)
    → with_front number front (with_later column (Err OutOfRange) later)
    ≡ with_front (option_or number (Some column)) front later
front-range None front column (Ok later) = refl
front-range None front column (Err LongLine) = refl
front-range None front column (Err (Syntax c)) = refl
front-range None front column (Err (Number c)) = refl
front-range None front column (Err NoMemory) = refl
front-range (Some n) front column (Ok later) = refl
front-range (Some n) front column (Err LongLine) = refl
front-range (Some n) front column (Err (Syntax c)) = refl
front-range (Some n) front column (Err (Number c)) = refl
front-range (Some n) front column (Err NoMemory) = refl

-- the next argument, in front of those of the forms behind it
one_more : (number : Option ℕ) (front : List Arg) (forms : List Form) (i : ℕ) (form : Form)
    (old : Unread) (column : ℕ)
    (read : Result Arg Misfit) (new : Unread)
    → i < length forms → form ≡ get_or forms i form → ReadsNext form old column read new
    → with_front number front (arguments (drop i forms) old.column old.tokens)
    ≡ with_front number front (with_later column read
    (arguments (drop (i + 1) forms) new.column new.tokens))
one_more number front forms i form old column read new h is next =
    rw (drop_more forms i form h, ← is) (ap (with_front number front)
    (next.later (drop (i + 1) forms)))

pub next-read : (number : Option ℕ) (front : List Arg) (forms : List Form) (i : ℕ) (form : Form)
    (old : Unread) (column : ℕ)
    (arg : Arg) (new : Unread)
    → i < length forms → form ≡ get_or forms i form → ReadsNext form old column (Ok arg) new
    → with_front number front (arguments (drop i forms) old.column old.tokens)
    ≡ with_front number (front ++ arg ∷ []) (arguments (drop (i + 1) forms) new.column new.tokens)
next-read number front forms i form old column arg new h is next =
    one_more number front forms i form old column (Ok arg) new h is next
    ∙ front-read number front column arg _

pub next-range : (number : Option ℕ) (front : List Arg) (forms : List Form) (i : ℕ) (form : Form)
    (old : Unread) (column : ℕ)
    (new : Unread)
    → i < length forms → form ≡ get_or forms i form → ReadsNext form old column (Err OutOfRange) new
    → with_front number front (arguments (drop i forms) old.column old.tokens)
    ≡ with_front (option_or number (Some column)) front
    (arguments (drop (i + 1) forms) new.column new.tokens)
next-range number front forms i form old column new h is next =
    one_more number front forms i form old column (Err OutOfRange) new h is next
    ∙ front-range number front column _

pub next-other : (number : Option ℕ) (front : List Arg) (forms : List Form) (i : ℕ) (form : Form)
    (old : Unread) (column : ℕ)
    (new : Unread)
    → i < length forms → form ≡ get_or forms i form → ReadsNext form old column (Err OtherForm) new
    → with_front number front (arguments (drop i forms) old.column old.tokens) ≡ Err (Syntax column)
next-other number front forms i form old column new h is next =
    one_more number front forms i form old column (Err OtherForm) new h is next

-- a token too many
pub end-beyond : (number : Option ℕ) (front : List Arg) (forms : List Form) (i column : ℕ)
    (token : Token) (tokens : List Token)
    → length forms ≤ i → with_front number front (arguments (drop i forms) column (token ∷ tokens))
    ≡ Err (Syntax token.column)
end-beyond number front forms i column token tokens h = rw (drop_all i forms h) refl

-- all arguments
pub end-all : (front : List Arg) (forms : List Form) (i column : ℕ)
    → length forms ≤ i → with_front None front (arguments (drop i forms) column []) ≡ Ok front
end-all front forms i column h = rw (drop_all i forms h) (ap Ok (append-nil front))

-- all arguments, one of them a number out of range
pub end-range : (number : ℕ) (front : List Arg) (forms : List Form) (i column : ℕ)
    → length forms ≤ i → with_front (Some number) front (arguments (drop i forms) column [])
    ≡ Err (Number number)
end-range number front forms i column h = rw (drop_all i forms h) refl
