-- Lists of rising numbers.
use Rattle.std.proofs.Common.{◌≡◌, ℕ, ◌<◌, Bool, true, false, cond, List, [], ◌∷◌, ◌++◌, filter, refl, sym, subst, inl, inr}
use Rattle.graph_state.specs.Names.{Has}
use Rattle.graph_state.proofs.Has.{has_last, has_filter}
use Rattle.graph_core.specs.Kept.{Rises}

-- a greater number goes to the end
pub rises_push : (x : ℕ) (xs : List ℕ) → ((y : ℕ) → Has y xs → y < x) → Rises xs → Rises (xs ++ x ∷ [])
rises_push x [] less r = ((λ y i. absurd i), tt)
rises_push x (z ∷ zs) less r =
    ((λ y i. elim (has_last y x zs i) [ inl j ↦ r.0 y j | inr e ↦ subst (λ y. z < y) (sym e) (less z (inl refl)) ]), rises_push x zs (λ y i. less y (inr i)) r.1)

-- some of the numbers go
pub rises_filter : (p : ℕ → Bool) (xs : List ℕ) → Rises xs → Rises (filter p xs)
rises_filter p [] r = tt
rises_filter p (x ∷ xs) r = elim (p x) as (λ b. Rises (cond b (x ∷ filter p xs) (filter p xs))) [
  | true ↦ ((λ y i. r.0 y (has_filter p y xs i).0), rises_filter p xs r.1)
  | false ↦ rises_filter p xs r.1
]
