-- What it means that a checker's verdict is right: conditions in an order, each of which holds or
-- is broken at places.
use Rattle.std.specs.Prelude.{◌≡◌, ◌⊎◌, ℕ, ◌<◌, List, [], ◌∷◌, Option, Some, None, ⊤}
use Rattle.graph_defs.specs.declared.verdict.Cond.{Cond}
use Rattle.graph_defs.specs.declared.verdict.Verdict.{Verdict}
use Rattle.graph_defs.specs.declared.verdict.Verdict.TheVariants.{Yes, No}

-- a condition is broken at a place, and holds at all places before it
pub record IsFirst (Holds : ℕ → Type 0) (place : ℕ) : Type 0 where
  pub broken : Holds place → ⊥
  pub least : (before : ℕ) → before < place → Holds before

-- what a search for a broken place may find: none, and then the condition holds at every place, or
-- the first one
abbrev pub Finds : (ℕ → Type 0) → Option ℕ → Type 0
Finds Holds None = (place : ℕ) → Holds place
Finds Holds (Some place) = IsFirst Holds place

-- the same of the places below n
abbrev pub FindsBelow : ℕ → (ℕ → Type 0) → Option ℕ → Type 0
FindsBelow n Holds found = Finds (λ place. place < n → Holds place) found

-- all conditions of a list hold at every place
abbrev pub AllHold : (Cond → ℕ → Type 0) → List Cond → Type 0
AllHold Holds [] = ⊤
AllHold Holds (cond ∷ conds) = ((place : ℕ) → Holds cond place) × AllHold Holds conds

-- the conditions before this one hold, and it is broken, first at the place
abbrev pub FirstBroken : (Cond → ℕ → Type 0) → List Cond → Cond → ℕ → Type 0
FirstBroken Holds [] broken place = ⊥
FirstBroken Holds (cond ∷ conds) broken place =
    ((cond ≡ broken) × IsFirst (Holds cond) place)
    ⊎ (((other : ℕ) → Holds cond other) × FirstBroken Holds conds broken place)

-- the verdict on conditions in their order; a condition without a place has the place 0
abbrev pub IsVerdict : (Cond → ℕ → Type 0) → List Cond → Verdict → Type 0
IsVerdict Holds conds Yes = AllHold Holds conds
IsVerdict Holds conds (No broken place) = FirstBroken Holds conds broken place
