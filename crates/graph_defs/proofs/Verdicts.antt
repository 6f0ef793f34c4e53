-- Passes that look for the first broken place.
use Rattle.std.proofs.Common.{◌≡◌, inl, inr, ℕ, ◌+◌, ◌<◌, subst, arith}
use Rattle.std.specs.Prelude.{Option, Some, None}
use Rattle.std.proofs.lemmas.Bool.{cases_lt}
use Rattle.graph_defs.specs.Verdict.{IsFirst, Finds}

-- what holds below n and at n holds below n + 1
pub below_more : (P : ℕ → Type 0) (n : ℕ) → ((v : ℕ) → v < n → P v) → P n → (v : ℕ) → v < n + 1 → P v
below_more P n before here v l = elim (cases_lt v n) [
  | inl h ↦ before v h
  | inr h ↦ (let e : n ≡ v = omega arith in subst P e here)
]

-- a pass that found none
pub none_holds : (P : ℕ → Type 0) (found : Option ℕ) → found ≡ None → Finds P found → (place : ℕ) → P place
none_holds P found e h = let Q : Option ℕ → Type 0 = λ o. Finds P o in subst Q e h

-- a pass that found one
pub some_first : (P : ℕ → Type 0) (found : Option ℕ) (place : ℕ) → found ≡ Some place → Finds P found → IsFirst P place
some_first P found place e h = let Q : Option ℕ → Type 0 = λ o. Finds P o in subst Q e h
