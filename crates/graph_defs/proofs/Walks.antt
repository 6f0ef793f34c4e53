-- Walks along any steps: joined, made longer, cut off.
use Rattle.std.proofs.Common.{◌≡◌, ℕ, zero, suc, ◌<◌, List, [], ◌∷◌, ◌++◌, length, take, get_or, refl, sym, subst, arith}
use Rattle.graph_defs.specs.Walk.{IsWalkBy}

module _ (IsThere : ℕ → Type 0) (from to : ℕ → ℕ) where
  pub walk_append : (u v w : ℕ) (xs ys : List ℕ) → IsWalkBy IsThere from to u v xs → IsWalkBy IsThere from to v w ys → IsWalkBy IsThere from to u w (xs ++ ys)
  walk_append u v w [] ys e there = let P : ℕ → Type 0 = λ x. IsWalkBy IsThere from to x w ys in subst P (sym e) there
  walk_append u v w (step ∷ xs) ys h there = (h.0, h.1, walk_append (to step) v w xs ys h.2 there)

  -- one step more
  pub walk_push : (u v step : ℕ) (xs : List ℕ) → IsWalkBy IsThere from to u v xs → IsThere step → from step ≡ v → IsWalkBy IsThere from to u (to step) (xs ++ step ∷ [])
  walk_push u v step xs h there e = walk_append u v (to step) xs (step ∷ []) h (there, e, refl)

  -- a walk up to where a step of it begins
  pub walk_take : (u w : ℕ) (xs : List ℕ) (k : ℕ) → IsWalkBy IsThere from to u w xs → k < length xs → IsWalkBy IsThere from to u (from (get_or xs k 0)) (take k xs)
  walk_take u w [] k h l = absurd (omega arith)
  walk_take u w (step ∷ xs) zero h l = sym h.1
  walk_take u w (step ∷ xs) (suc k) h l = (h.0, h.1, walk_take (to step) w xs k h.2 (omega arith))

  -- a walk has one end
  pub walk_end : (u v w : ℕ) (xs : List ℕ) → IsWalkBy IsThere from to u v xs → IsWalkBy IsThere from to u w xs → v ≡ w
  walk_end u v w [] d e = let P : ℕ → Type 0 = λ x. x ≡ w in subst P d e
  walk_end u v w (step ∷ xs) h i = walk_end (to step) v w xs h.2 i.2

  -- the steps of a walk are there
  pub walk_there : (u w : ℕ) (xs : List ℕ) (k : ℕ) → IsWalkBy IsThere from to u w xs → k < length xs → IsThere (get_or xs k 0)
  walk_there u w [] k h l = absurd (omega arith)
  walk_there u w (step ∷ xs) zero h l = h.0
  walk_there u w (step ∷ xs) (suc k) h l = walk_there (to step) w xs k h.2 (omega arith)
