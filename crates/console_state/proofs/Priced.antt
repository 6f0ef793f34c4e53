-- The costs of visible edges: as they are looked up one by one, and what they are refused by.
use Rattle.std.proofs.Common.{◌≡◌, ℕ, zero, suc, ◌+◌, ◌<◌, ℤ, pos, ◌≤ℤ◌, Bool, true, false, cond, List, [], ◌∷◌, map, length, All, inl, inr, refl, sym, ap, subst, ◌∙◌, arith}
use Rattle.std.proofs.lemmas.Int.{ints}
use Rattle.std.specs.Prelude.{◌<ℤ◌, int_lt, not, find, Option, Some, None, option_map, option_and_then, unwrap_or, slice_index}
use Rattle.leda_base.specs.declared.name.ItemName.{ItemName}
use Rattle.leda_base.specs.declared.name.ItemName.TheVariants as items
use Rattle.object_store.specs.declared.kind.Sort.TheVariants.{Edges}
use Rattle.object_store.specs.declared.listed.ValuesRefusal.TheVariants.{Covered}
use Rattle.object_store.specs.Listed.{AreValues, HoldsValues, IsFirstUncovered, ListsValues, RefusesValues}
use Rattle.object_store.specs.State.{Valuation}
use Rattle.reply_text.specs.declared.refusal.Refusal.{Refusal}
use Rattle.reply_text.specs.declared.refusal.Refusal.TheVariants as refusals
use Rattle.sp_search.specs.Refusals.{IsFirstNegative}
use Rattle.console_state.specs.State.{State}
use Rattle.console_state.specs.Views.{edge_names}
use Rattle.console_state.specs.Costs.{value_in, covers_in, edge_values, costs, uncovered, negative}

-- ---- the values of an array or a map, one by one
module _ (v : Valuation) where
  abbrev outside : ℕ → Bool
  outside e = not (covers_in (Some v) e)

  all_covered : (ns : List ℕ) (row : List ℤ) → AreValues v ns row → find outside ns ≡ None
  all_covered [] [] are = refl
  all_covered [] (x ∷ row) are = absurd are
  all_covered (n ∷ ns) [] are = absurd are
  all_covered (n ∷ ns) (x ∷ row) are =
      subst (λ b. cond (not b) (Some n) (find outside ns) ≡ None) (sym are.0.0) (all_covered ns row are.1)

  all_values : (ns : List ℕ) (row : List ℤ) → AreValues v ns row → row ≡ map (value_in (Some v)) ns
  all_values [] [] are = refl
  all_values [] (x ∷ row) are = absurd are
  all_values (n ∷ ns) [] are = absurd are
  all_values (n ∷ ns) (x ∷ row) are =
      subst (λ (o : Option ℤ). x ∷ row ≡ unwrap_or o (pos 0) ∷ map (value_in (Some v)) ns) (sym are.0.1)
      (ap (λ r. x ∷ r) (all_values ns row are.1))

  first_outside : (ns : List ℕ) (n : ℕ) → IsFirstUncovered v ns n → find outside ns ≡ Some n
  first_outside [] n is = absurd is
  first_outside (k ∷ ks) n (inl here) =
      subst (λ b. cond (not b) (Some k) (find outside ks) ≡ Some n) (sym here.1) (ap Some (sym here.0))
  first_outside (k ∷ ks) n (inr later) =
      subst (λ b. cond (not b) (Some k) (find outside ks) ≡ Some n) (sym later.0) (first_outside ks n later.1)

-- ---- tests of numbers
below_is : (a b : ℤ) → a <ℤ b → int_lt a b ≡ true
below_is a b lt = by (int_lt a b) refl
  where
    by : (t : Bool) → int_lt a b ≡ t → int_lt a b ≡ true
    by true e = e
    by false e = absurd (omega (arith, ints))

below_isnt : (a b : ℤ) → b ≤ℤ a → int_lt a b ≡ false
below_isnt a b le = by (int_lt a b) refl
  where
    by : (t : Bool) → int_lt a b ≡ t → int_lt a b ≡ false
    by true e = absurd (omega (arith, ints))
    by false e = e

-- ---- the first value below 0
module _ (f : ℕ → ℤ) where
  abbrev is_below : ℕ → Bool
  is_below e = int_lt (f e) (pos 0)

  none_below : (ns : List ℕ) → All (λ c. pos 0 ≤ℤ c) (map f ns) → find is_below ns ≡ None
  none_below [] all = refl
  none_below (n ∷ ns) all =
      subst (λ b. cond b (Some n) (find is_below ns) ≡ None) (sym (below_isnt (f n) (pos 0) (all 0 (pos 0) (omega arith))))
      (none_below ns (λ k d lt. all (suc k) d (omega (arith, lt))))

  first_below : (ns : List ℕ) (arc : ℕ) → IsFirstNegative (map f ns) arc → find is_below ns ≡ Some (slice_index ns arc)
  first_below [] arc is = absurd (let lt = is.known in omega (arith, lt))
  first_below (n ∷ ns) zero is =
      subst (λ b. cond b (Some n) (find is_below ns) ≡ Some n) (sym (below_is (f n) (pos 0) is.here)) refl
  first_below (n ∷ ns) (suc arc) is =
      subst (λ b. cond b (Some n) (find is_below ns) ≡ Some (slice_index ns arc))
      (sym (below_isnt (f n) (pos 0) (is.before 0 (omega arith))))
      (first_below ns arc (record {
        known = let lt = is.known in omega (arith, lt);
        here = is.here;
        before = λ j lt. is.before (suc j) (omega (arith, lt));
      }))

-- ---- the costs by the object of a name
module _ (s : State) (name : List ℕ) where
  holds : (v : Valuation) → HoldsValues s.objects Edges name v → edge_values s name ≡ Some v
  holds v h = subst (λ o. option_and_then (λ o. o.values) o ≡ Some v) (sym h.1) h.2

  pub listed-covered : (row : List ℤ) → ListsValues s.objects Edges name (edge_names s) row → uncovered s name ≡ None
  listed-covered row (v, h, are) =
      subst (λ values. option_map (λ e. refusals.Covered (items.Edge e)) (find (λ e. not (covers_in values e)) (edge_names s)) ≡ None)
      (sym (holds v h)) (ap (option_map (λ e. refusals.Covered (items.Edge e))) (all_covered v (edge_names s) row are))

  pub listed-costs : (row : List ℤ) → ListsValues s.objects Edges name (edge_names s) row → row ≡ costs s name
  listed-costs row (v, h, are) =
      subst (λ values. row ≡ map (value_in values) (edge_names s)) (sym (holds v h)) (all_values v (edge_names s) row are)

  pub first-uncovered : (x : ItemName) → RefusesValues s.objects Edges name (edge_names s) (Covered x)
      → uncovered s name ≡ Some (refusals.Covered x)
  first-uncovered x (v, h, (n, same, first)) =
      subst (λ values. option_map (λ e. refusals.Covered (items.Edge e)) (find (λ e. not (covers_in values e)) (edge_names s)) ≡ Some (refusals.Covered x))
      (sym (holds v h))
      (ap (option_map (λ e. refusals.Covered (items.Edge e))) (first_outside v (edge_names s) n first) ∙ ap (λ y. Some (refusals.Covered y)) (sym same))

  module _ (cost : List ℤ) (same : cost ≡ costs s name) where
    pub none-negative : All (λ c. pos 0 ≤ℤ c) cost → negative s name ≡ None
    none-negative all = ap (option_map refusals.Negative)
        (none_below (value_in (edge_values s name)) (edge_names s) (subst (λ c. All (λ x. pos 0 ≤ℤ x) c) same all))

    pub first-negative : (arc : ℕ) → IsFirstNegative cost arc → negative s name ≡ Some (refusals.Negative (slice_index (edge_names s) arc))
    first-negative arc is = ap (option_map refusals.Negative)
        (first_below (value_in (edge_values s name)) (edge_names s) arc (subst (λ c. IsFirstNegative c arc) same is))

    -- so of any sum of the costs
    module _ (sum : List ℤ → ℤ) where
      pub within-bound : sum cost ≤ℤ pos 4611686018427387903
          → cond (int_lt (pos 4611686018427387903) (sum (costs s name))) (Some refusals.Bound) None ≡ None
      within-bound le = subst (λ c. cond (int_lt (pos 4611686018427387903) (sum c)) (Some refusals.Bound) None ≡ None) same
          (subst (λ b. cond b (Some refusals.Bound) None ≡ None) (sym (below_isnt (pos 4611686018427387903) (sum cost) le)) refl)

      pub beyond-bound : pos 4611686018427387903 <ℤ sum cost
          → cond (int_lt (pos 4611686018427387903) (sum (costs s name))) (Some refusals.Bound) None ≡ Some refusals.Bound
      beyond-bound lt = subst (λ c. cond (int_lt (pos 4611686018427387903) (sum c)) (Some refusals.Bound) None ≡ Some refusals.Bound) same
          (subst (λ b. cond b (Some refusals.Bound) None ≡ Some refusals.Bound) (sym (below_is (pos 4611686018427387903) (sum cost) lt)) refl)
