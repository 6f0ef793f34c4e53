-- Maps with an entry for each of some numbers.
use Rattle.std.proofs.Common.{◌≡◌, ℕ, List, [], ◌∷◌, Some, None, unwrap_or, sym, ap, ◌∙◌, ◌⊎◌, inl, inr}
use Rattle.std.specs.FinMap as map
use Rattle.std.specs.FinMap.{get-empty}
use Rattle.std.specs.Ordering.{nat_cmp}
use Rattle.graph_state.specs.Names.{Has}
use Rattle.graph_state.specs.Edits.{at_each}
use Rattle.graph_state.proofs.Same.{nat_tells}
use Rattle.graph_state.proofs.Maps.{put_here, put_else}

pub has_or_not : (k : ℕ) (ks : List ℕ) → Has k ks ⊎ (Has k ks → ⊥)
has_or_not k [] = inr (λ i. i)
has_or_not k (j ∷ ks) = elim (nat_tells k j) [
  | inl y ↦ inl (inl y.1)
  | inr n ↦ elim (has_or_not k ks) [ inl i ↦ inl (inr i) | inr out ↦ inr (λ i. elim i [ inl e ↦ n.1 e | inr h ↦ out h ]) ]
]

module _ {X : Type 0} (f : ℕ → X) where
  pub each_in : (ks : List ℕ) (k : ℕ) → Has k ks → map.get (at_each ks f) k ≡ Some (f k)
  each_in [] k i = absurd i
  each_in (j ∷ ks) k i = elim (nat_tells k j) [
    | inl y ↦ put_here (at_each ks f) j (f j) k y.1 ∙ ap (λ n. Some (f n)) (sym y.1)
    | inr n ↦ put_else (at_each ks f) j (f j) k n.1 ∙ each_in ks k (elim i [ inl e ↦ absurd (n.1 e) | inr h ↦ h ])
  ]

  pub each_out : (ks : List ℕ) (k : ℕ) → (Has k ks → ⊥) → map.get (at_each ks f) k ≡ None
  each_out [] k out = get-empty nat_cmp k
  each_out (j ∷ ks) k out = put_else (at_each ks f) j (f j) k (λ e. out (inl e)) ∙ each_out ks k (λ i. out (inr i))

-- a map of lists, where f gives no list to the other numbers
pub each_list : {X : Type 0} (f : ℕ → List X) (ks : List ℕ) (k : ℕ) → ((Has k ks → ⊥) → f k ≡ []) → unwrap_or (map.get (at_each ks f) k) [] ≡ f k
each_list f ks k bare = elim (has_or_not k ks) [
  | inl i ↦ ap (λ o. unwrap_or o []) (each_in f ks k i)
  | inr out ↦ ap (λ o. unwrap_or o []) (each_out f ks k out) ∙ sym (bare out)
]
