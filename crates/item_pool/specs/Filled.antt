-- Private: which places of a row hold a value.
use Rattle.std.specs.Prelude.{◌≡◌, ℕ, get_or, List, [], ◌∷◌, Option, Some, None}

module _ {X : Type 0} where
  -- the place at the index holds a value
  abbrev pub IsFilled : List (Option X) → ℕ → Type 0
  IsFilled row i = (x : X) × (get_or row i None ≡ Some x)

  -- the values that are there
  abbrev pub somes : List (Option X) → List X
  somes [] = []
  somes (None ∷ row) = somes row
  somes (Some x ∷ row) = x ∷ somes row
