-- Labels that write integers.
use Rattle.std.specs.Prelude.{◌≡◌, ℕ, ℤ, ◌⊎◌, List, [], ◌∷◌, Some, FitsSigned}
use Rattle.std.specs.Int.{w64}
use Rattle.leda_base.specs.Decimal.{integer_of}
use Rattle.leda_base.specs.declared.name.ItemName.{ItemName}
use Rattle.node_maps.specs.declared.array.LabelRefusal.{LabelRefusal}
use Rattle.node_maps.specs.declared.array.LabelRefusal.TheVariants.{Label, NoMemory}

-- the text writes the integer z, which is an i64
abbrev pub Reads : List ℕ → ℤ → Type 0
Reads text z = (integer_of text ≡ Some z) × FitsSigned w64 z

abbrev pub IsI64 : List ℕ → Type 0
IsI64 text = (z : ℤ) × Reads text z

-- n is the first of the elements whose label writes no i64
abbrev pub IsFirstUnread : (ℕ → List ℕ) → List ℕ → ℕ → Type 0
IsFirstUnread label [] n = ⊥
IsFirstUnread label (k ∷ ks) n = ((n ≡ k) × (IsI64 (label k) → ⊥))
    ⊎ (IsI64 (label k) × IsFirstUnread label ks n)

-- why no array is made of the labels of the elements, which have these names
abbrev pub RefusesLabels : List ℕ → (ℕ → List ℕ) → (ℕ → ItemName) → LabelRefusal → Type 0
RefusesLabels live label name (Label x) = (n : ℕ) × ((x ≡ name n) × IsFirstUnread label live n)
RefusesLabels live label name NoMemory = Unit {0}
