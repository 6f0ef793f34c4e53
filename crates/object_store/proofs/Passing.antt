-- How many numbers pass a test: as many as a map has keys, where it passes those.
use Rattle.std.proofs.Common.{◌≡◌, ℕ, zero, suc, ◌+◌, ◌<◌, ◌≤◌, ◌≢◌, Bool, cond, Option, Some, None, is_some, refl, sym, ap, ◌∙◌, ⊎_elim, arith}
use Rattle.std.proofs.lemmas.Bool.{cases_eq}
use Rattle.std.specs.Ordering.{nat_cmp}
use Rattle.std.specs.Cmp.{nat_cmp_total}
use Rattle.std.specs.FinMap as map
use Rattle.item_dict.proofs.Maps.{gone_here, gone_there, inserted, len_more}
use Rattle.object_store.specs.Views.{passing}

pub passing_same : (p q : ℕ → Bool) (n : ℕ) → ((k : ℕ) → k ≤ n → p k ≡ q k) → passing p n ≡ passing q n
unfolding passing
passing_same p q zero is = refl
passing_same p q (suc n) is =
    let rest = passing_same p q n (λ k le. is k (omega (arith, le))) in
    λ i. cond (is (suc n) (omega arith) i) 1 0 + rest i

module _ {X : Type 0} where
  no_keys : (m : map.FinMap nat_cmp X) → ((k : ℕ) → map.get m k ≡ None) → m ≡ map.empty
  no_keys m none = map.same_map nat_cmp_total map.nat_cmp-IsAntisymmetric m map.empty (λ k. none k ∙ sym (map.get-empty nat_cmp k))

  none_of : (o : Option X) → ((x : X) → o ≡ Some x → ⊥) → o ≡ None
  none_of None not = refl
  none_of (Some x) not = absurd (not x refl)

  -- where all keys are from 1 to n
  pub passing_len : (n : ℕ) (m : map.FinMap nat_cmp X) → ((k : ℕ) (x : X) → map.get m k ≡ Some x → (0 < k) × (k ≤ n)) → passing (λ k. is_some (map.get m k)) n ≡ map.len m
  unfolding passing
  passing_len zero m within =
      let bare = no_keys m (λ k. none_of (map.get m k) (λ x e. let w = within k x e in absurd (omega (arith, w.0, w.1)))) in
      sym (ap (λ (o : map.FinMap nat_cmp X). map.len o) bare ∙ map.len-empty nat_cmp X)
  passing_len (suc n) m within =
      let less = map.remove m (suc n) in
      let here : map.get less (suc n) ≡ None = gone_here nat_cmp_total map.nat_cmp-IsAntisymmetric m (suc n) in
      let there : (k : ℕ) → k ≢ suc n → map.get less k ≡ map.get m k = λ k ne. gone_there nat_cmp_total map.nat_cmp-IsAntisymmetric m (suc n) k ne in
      let kept : (k : ℕ) (x : X) → map.get less k ≡ Some x → (0 < k) × (k ≤ n) = λ k x e. ⊎_elim
      (λ (is : k ≡ suc n). let no : None ≡ Some x = sym here ∙ ap (λ j. map.get less j) (sym is) ∙ e in cc)
      (λ (ne : k ≢ suc n). let w = within k x (sym (there k ne) ∙ e) in (w.0, omega (arith, w.1, ne)))
      (cases_eq k (suc n)) in
      let rest : passing (λ k. is_some (map.get m k)) n ≡ map.len less =
      passing_same (λ k. is_some (map.get m k)) (λ k. is_some (map.get less k)) n (λ k le. ap (λ o. is_some o) (sym (there k (λ is. absurd (omega (arith, le, is))))))
      ∙ passing_len n less kept in
      elim (map.get m (suc n)) as (λ o. map.get m (suc n) ≡ o → cond (is_some o) 1 0 + passing (λ k. is_some (map.get m k)) n ≡ map.len m) [
        | None ↦ λ e.
            let same : less ≡ m = map.same_map nat_cmp_total map.nat_cmp-IsAntisymmetric less m (λ k. ⊎_elim
            (λ (is : k ≡ suc n). ap (λ j. map.get less j) is ∙ here ∙ sym (ap (λ j. map.get m j) is ∙ e))
            (λ (ne : k ≢ suc n). there k ne) (cases_eq k (suc n))) in
            let l : map.len less ≡ map.len m = ap (λ (o : map.FinMap nat_cmp X). map.len o) same in
            omega (arith, rest, l)
        | Some x ↦ λ e.
            let same : m ≡ map.insert less (suc n) x = inserted nat_cmp_total map.nat_cmp-IsAntisymmetric less (suc n) m x e (λ k ne. sym (there k ne)) in
            let l : map.len m ≡ map.len less + 1 = ap (λ (o : map.FinMap nat_cmp X). map.len o) same ∙ len_more nat_cmp_total map.nat_cmp-IsAntisymmetric less (suc n) x here in
            omega (arith, rest, l)
      ] refl
