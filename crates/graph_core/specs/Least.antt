-- Private: the least of some numbers of edges.
use Rattle.std.specs.Prelude.{◌≡◌, ℕ, ◌≤◌, Bool, true, false, not, ◌&&◌, ◌==◌, nat_lt, List, is_some, Option, Some, None}
use Rattle.graph_state.specs.Names.{Has}
use Rattle.graph_core.specs.declared.cell.EdgeCell.{EdgeCell}

-- the edge f has this cell, comes later than e, has no reversal, and goes from w to v
abbrev pub is_free : ℕ → ℕ → ℕ → ℕ → Option EdgeCell → Bool
is_free e v w f None = false
is_free e v w f (Some c) = nat_lt e f && (not (is_some c.reversal)
    && ((c.from == w) && (c.to == v)))

-- the least number of the list that passes the test, where one does
abbrev pub IsLeast : (ℕ → Bool) → List ℕ → Option ℕ → Type 0
IsLeast P xs None = (d : ℕ) → Has d xs → P d ≡ true → ⊥
IsLeast P xs (Some b) = Has b xs × ((P b ≡ true) × ((d : ℕ) → Has d xs → P d ≡ true → b ≤ d))
