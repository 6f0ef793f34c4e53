-- Private: what a look for a serial finds, as a function from serials to slots.
use Rattle.std.specs.Prelude.{◌≡◌, ℕ, ◌≢◌, Option, Some, None}

-- g has v at s, and all else as f has it
pub record Sets (f g : ℕ → Option ℕ) (s : ℕ) (v : Option ℕ) : Type 0 where
  pub here : g s ≡ v
  pub others : (q : ℕ) → q ≢ s → g q ≡ f q

-- who is at home isn't among the others
abbrev pub IsApart : (ℕ → Option ℕ) → (ℕ → Option ℕ) → Type 0
IsApart home other = (s i : ℕ) → home s ≡ Some i → other s ≡ None
