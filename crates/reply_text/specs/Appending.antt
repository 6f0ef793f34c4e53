-- Private: what the functions that append a reply's bytes keep.
use Rattle.std.specs.Prelude.{◌≡◌, ℕ, ◌+◌, ◌≤◌, List, [], ◌∷◌, ◌++◌, decimal, Result, IsOk, OnOk, ⊤}
use Rattle.std.specs.Fmt.{signed_decimal}
use Rattle.std.specs.Vec.{vec_len, vec_capacity}
use Rattle.std.specs.declared.vec.Vec.{Vec}
use Rattle.std.specs.declared.alloc.Global.{Global}
use Rattle.leda_base.specs.Name.{IsShortName}
use Rattle.reply_text.specs.declared.refusal.Subject.{Subject}
use Rattle.reply_text.specs.declared.refusal.Subject.TheVariants.{Nothing, Word, Item, Number, Text}
use Rattle.reply_text.specs.Words.{item_word, kind_word}

-- bytes to which others were appended, perhaps none
abbrev pub StartsAs : List ℕ → List ℕ → Type 0
StartsAs old new = (more : List ℕ) × (new ≡ old ++ more)

-- the bytes were appended, or where memory was wanted some bytes were
pub record Appends {T E : Type 0} (bytes : List ℕ) (old new : Vec ℕ Global) (result : Result T E)
    : Type 0 where
  pub whole : OnOk result (new.items ≡ old.items ++ bytes)
  pub front : StartsAs old.items new.items
  pub capacity : vec_capacity old ≤ vec_capacity new

-- at most so many bytes were appended, and where there is room for so many they were
pub record TakesRoom {T E : Type 0} (most : ℕ) (old new : Vec ℕ Global) (result : Result T E)
    : Type 0 where
  pub short : vec_len new ≤ vec_len old + most
  pub room : vec_len old + most ≤ vec_capacity old → IsOk result

-- the words of what a refusal is about
abbrev pub subject_words : Subject → List (List ℕ)
subject_words Nothing = []
subject_words (Word word) = word.now ∷ []
subject_words (Item x) = item_word x ∷ []
subject_words (Number number) = signed_decimal number ∷ []
subject_words (Text kind line) = kind_word kind ∷ decimal line ∷ []

-- a word that is no longer than a name may be
abbrev pub IsSubjectShort : Subject → Type 0
IsSubjectShort (Word word) = IsShortName word.now
IsSubjectShort _ = ⊤
