-- Private: what a row of entries says.
use Rattle.std.specs.Prelude.{◌≡◌, ℕ, pos, ◌<◌, ◌==◌, cond, List, [], ◌∷◌, get_or}
use Rattle.std.specs.FinMap as map
use Rattle.node_maps.specs.declared.row.Entry.{Entry}
use Rattle.node_maps.specs.Contents.{Values}

-- what stands for an entry where there is none
abbrev pub no_entry : Entry
no_entry = record { number = 0; value = pos 0 }

abbrev pub entry_at : List Entry → ℕ → Entry
entry_at es k = get_or es k no_entry

abbrev pub number_at : List Entry → ℕ → ℕ
number_at es k = (entry_at es k).number

-- the values of the entries that aren't vacant
abbrev pub values_of : List Entry → Values
values_of [] = map.empty
values_of (e ∷ es) = cond (e.number == 0) (values_of es)
    (map.insert (values_of es) e.number e.value)

-- no two entries have one number, but vacant ones
abbrev pub AreApart : List Entry → Type 0
AreApart es = (j k : ℕ) → 0 < number_at es j → number_at es j ≡ number_at es k → j ≡ k
