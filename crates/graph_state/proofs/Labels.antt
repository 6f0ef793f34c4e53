-- Labels, as lines of text have them.
use Rattle.std.proofs.Common.{◌≡◌, ℕ, true, not, ◌==◌, ◌&&◌, List, [], ◌∷◌, sym, subst, inl, inr}
use Rattle.std.specs.List.{list_all}
use Rattle.graph_state.specs.Names.{Has}
use Rattle.graph_state.proofs.Same.{nat_tells}

-- bytes none of which is a line feed
pub no_line : (bytes : List ℕ) → list_all (λ b. not (b == 10)) bytes ≡ true → Has 10 bytes → ⊥
no_line [] all i = i
no_line (b ∷ bs) all i = elim (nat_tells b 10) [
  | inl y ↦ let e = subst (λ t. (not t && list_all (λ b. not (b == 10)) bs) ≡ true) y.0 all in cc
  | inr n ↦ elim i [ inl e ↦ n.1 (sym e) | inr j ↦ no_line bs (subst (λ t. (not t && list_all (λ b. not (b == 10)) bs) ≡ true) n.0 all) j ]
]
