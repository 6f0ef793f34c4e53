-- What holds of each row of a table holds of the row that a line chooses.
use Rattle.std.proofs.Common.{◌≡◌, ◌≤◌, ℕ, ◌||◌, Bool, true, false, nat_le, List, [], ◌∷◌, length, find, Option, Some, None, IfSome, cond, refl, rules, arith}
use Rattle.std.specs.Option.{option_or, option_map_or}
use Rattle.std.proofs.lemmas.Bool.Decides.{nat_tests}
use Rattle.script_text.specs.declared.table.TheConstants.{FORM_LIMIT}
use Rattle.script_text.specs.Borrowed.{are_short, IsEntry}
use Rattle.script_text.specs.declared.word.Word.{Word}
use Rattle.script_text.specs.Table.{Entry, table, entry_of, entry_with, forms_of, keeps_any, is_taken, may_lack, may_lack_memory}
use Rattle.script_text.specs.Token.{Token}
use Rattle.script_text.proofs.Numbers.{first_true, second_true}

-- each row has the property
abbrev pub Each : (Entry → Type 0) → List Entry → Type 0
Each P [] = Unit {0}
Each P (row ∷ rows) = P row × Each P rows

find-each : (P : Entry → Type 0) (test : Entry → Bool) (rows : List Entry) → Each P rows
    → IfSome (find test rows) P
find-each P test [] each = tt
find-each P test (row ∷ rows) each = by_test (test row) (find-each P test rows each.1)
  where
    by_test : (v : Bool) → IfSome (find test rows) P → IfSome (cond v (Some row) (find test rows)) P
    by_test true later = each.0
    by_test false later = later

either_has : (P : Entry → Type 0) (first second : Option Entry) → IfSome first P → IfSome second P
    → IfSome (option_or first second) P
either_has P None second h i = i
either_has P (Some row) second h i = h

-- the row that is chosen has the property
pub entry_of-each : (P : Entry → Type 0) (rows : List Entry) (spelling : List ℕ)
    (next : Option Token) → Each P rows
    → IfSome (entry_of rows spelling next) P
entry_of-each P rows spelling next each = either_has P _ _ (find-each P _ rows each)
    (find-each P _ rows each)

-- no more arguments than there is room for
abbrev IsShort : Entry → Type 0
IsShort row = length row.forms ≤ FORM_LIMIT

each-short : (rows : List Entry) → are_short rows ≡ true → Each IsShort rows
each-short [] e = tt
each-short (row ∷ rows) e =
    let few : nat_le (length row.forms) FORM_LIMIT ≡ true = first_true _ _ e in
    let short : length row.forms ≤ FORM_LIMIT = grind (arith, nat_tests) in
    (short, each-short rows (second_true _ _ e))

pub entry_of-short : (rows : List Entry) (spelling : List ℕ) (next : Option Token)
    → are_short rows ≡ true
    → IfSome (entry_of rows spelling next) (λ row. length row.forms ≤ FORM_LIMIT)
entry_of-short rows spelling next e = entry_of-each IsShort rows spelling next (each-short rows e)

-- each row of the table is that of its word
pub table-each : Each IsEntry table
table-each = search rules

-- a word whose arguments keep bytes may lack memory
pub keeps-may_lack : (word : Word) → keeps_any (forms_of word) ≡ true → may_lack_memory word ≡ true
keeps-may_lack word = by_entry (entry_with word)
  where
    either : (keeps taken : Bool) → keeps ≡ true → (keeps || taken) ≡ true
    either true taken e = refl
    either false taken e = cc

    by_entry : (found : Option Entry) → keeps_any (option_map_or (λ entry. entry.forms) found [])
        ≡ true
        → option_map_or may_lack found false ≡ true
    by_entry None e = cc
    by_entry (Some entry) e = either (keeps_any entry.forms) (is_taken entry.memory) e
