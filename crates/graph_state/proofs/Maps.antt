-- Finite maps and sets of numbers, an entry at a time.
use Rattle.std.proofs.Common.{◌≡◌, ℕ, ◌+◌, ◌-◌, true, false, cond, ◌==◌, not, ◌&&◌, ◌||◌, List, [], Some, None, unwrap_or, is_some, refl, sym, ap, ◌∙◌, inl, inr, arith}
use Rattle.std.proofs.lemmas.Grind.{common_steps}
use Rattle.std.proofs.lemmas.Bool.Decides.{eqb_tells}
use Rattle.std.specs.Ordering.{nat_cmp, eq_by_cmp}
use Rattle.std.specs.Cmp.{nat_cmp_total}
use Rattle.std.specs.FinMap as map
use Rattle.std.specs.FinMap.{FinMap, get-insert, get-remove, get-empty, len-insert, len-remove, empty_of_len}
use Rattle.std.specs.FinSet as set
use Rattle.std.specs.FinSet.{FinSet, contains-insert, contains-remove}
use Rattle.graph_state.proofs.Has.{not_both}

tied : (k : ℕ) → eq_by_cmp nat_cmp k k ≡ true
tied k = grind (arith, common_steps)

untied : (q k : ℕ) → (q ≡ k → ⊥) → eq_by_cmp nat_cmp q k ≡ false
untied q k ne = grind (arith, common_steps)

-- the order of numbers ties just the equal ones
pub ties : (q k : ℕ) → eq_by_cmp nat_cmp q k ≡ (q == k)
ties q k = elim (eqb_tells q k) [
  | inl y ↦ ap (eq_by_cmp nat_cmp q) (sym y.1) ∙ tied q ∙ sym y.0
  | inr n ↦ untied q k n.1 ∙ sym n.0
]

module _ {X : Type 0} (m : FinMap nat_cmp X) (k : ℕ) where
  pub get_put : (x : X) (q : ℕ) → map.get (map.insert m k x) q ≡ cond (q == k) (Some x) (map.get m q)
  get_put x q = get-insert nat_cmp_total m k x q ∙ ap (λ b. cond b (Some x) (map.get m q)) (ties q k)

  pub get_out : (q : ℕ) → map.get (map.remove m k) q ≡ cond (q == k) None (map.get m q)
  get_out q = get-remove nat_cmp_total m k q ∙ ap (λ b. cond b None (map.get m q)) (ties q k)

  pub put_here : (x : X) (q : ℕ) → q ≡ k → map.get (map.insert m k x) q ≡ Some x
  put_here x q e = get_put x q ∙ ap (λ b. cond b (Some x) (map.get m q)) (sym (ties q k) ∙ ap (eq_by_cmp nat_cmp q) (sym e) ∙ tied q)

  pub put_else : (x : X) (q : ℕ) → (q ≡ k → ⊥) → map.get (map.insert m k x) q ≡ map.get m q
  put_else x q ne = get_put x q ∙ ap (λ b. cond b (Some x) (map.get m q)) (sym (ties q k) ∙ untied q k ne)

  pub out_here : (q : ℕ) → q ≡ k → map.get (map.remove m k) q ≡ None
  out_here q e = get_out q ∙ ap (λ b. cond b None (map.get m q)) (sym (ties q k) ∙ ap (eq_by_cmp nat_cmp q) (sym e) ∙ tied q)

  pub out_else : (q : ℕ) → (q ≡ k → ⊥) → map.get (map.remove m k) q ≡ map.get m q
  out_else q ne = get_out q ∙ ap (λ b. cond b None (map.get m q)) (sym (ties q k) ∙ untied q k ne)

  pub len_put : (x : X) → map.get m k ≡ None → map.len (map.insert m k x) ≡ map.len m + 1
  len_put x none = len-insert nat_cmp_total m k x ∙ ap (λ o. cond (is_some o) (map.len m) (map.len m + 1)) none

  pub len_kept : (x y : X) → map.get m k ≡ Some y → map.len (map.insert m k x) ≡ map.len m
  len_kept x y some = len-insert nat_cmp_total m k x ∙ ap (λ o. cond (is_some o) (map.len m) (map.len m + 1)) some

  pub len_out : (y : X) → map.get m k ≡ Some y → map.len (map.remove m k) + 1 ≡ map.len m
  len_out y some =
      let n = len-remove nat_cmp_total m k ∙ ap (λ o. cond (is_some o) (map.len m - 1) (map.len m)) some in
      elim (eqb_tells (map.len m) 0) [
        | inl z ↦ absurd (not_both (ap is_some some) (ap (λ m. map.contains_key m k) (empty_of_len m z.1) ∙ ap is_some (get-empty nat_cmp k)))
        | inr ne ↦ omega (arith, n, ne.1)
      ]

module _ (s : FinSet nat_cmp) (k : ℕ) where
  pub in_put : (q : ℕ) → set.contains (set.insert s k) q ≡ ((q == k) || set.contains s q)
  in_put q = contains-insert nat_cmp_total s k q ∙ ap (λ b. b || set.contains s q) (ties q k)

  pub in_out : (q : ℕ) → set.contains (set.remove s k) q ≡ (not (q == k) && set.contains s q)
  in_out q = contains-remove nat_cmp_total s k q ∙ ap (λ b. not b && set.contains s q) (ties q k)

-- what a list of a map is where one of them is replaced
pub list_put : {X : Type 0} (m : FinMap nat_cmp (List X)) (k : ℕ) (xs : List X) (q : ℕ) → unwrap_or (map.get (map.insert m k xs) q) [] ≡ cond (q == k) xs (unwrap_or (map.get m q) [])
list_put m k xs q = ap (λ o. unwrap_or o []) (get_put m k xs q) ∙ elim (q == k) as (λ b. unwrap_or (cond b (Some xs) (map.get m q)) [] ≡ cond b xs (unwrap_or (map.get m q) [])) [ true ↦ refl | false ↦ refl ]
