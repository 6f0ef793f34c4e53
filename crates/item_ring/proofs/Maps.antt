-- What an insertion into a finite map of numbers tells.
use Rattle.std.proofs.Common.{◌≡◌, ℕ, true, false, cond, Some, None, ap, ◌∙◌, arith}
use Rattle.std.proofs.lemmas.Grind.{common_steps}
use Rattle.std.specs.Ordering.{nat_cmp, eq_by_cmp}
use Rattle.std.specs.Cmp.{nat_cmp_total}
use Rattle.std.specs.FinMap as map
use Rattle.std.specs.FinMap.{FinMap, get-insert, get-remove}

tied : (k : ℕ) → eq_by_cmp nat_cmp k k ≡ true
tied k = grind (arith, common_steps)

untied : (q k : ℕ) → (q ≡ k → ⊥) → eq_by_cmp nat_cmp q k ≡ false
untied q k ne = grind (arith, common_steps)

module _ {X : Type 0} (m : FinMap nat_cmp X) (k : ℕ) where
  pub get_new : (x : X) → map.get (map.insert m k x) k ≡ Some x
  get_new x = get-insert nat_cmp_total m k x k ∙ ap (λ b. cond b (Some x) (map.get m k)) (tied k)

  pub get_else : (x : X) (q : ℕ) → (q ≡ k → ⊥) → map.get (map.insert m k x) q ≡ map.get m q
  get_else x q ne = get-insert nat_cmp_total m k x q ∙ ap (λ b. cond b (Some x) (map.get m q)) (untied q k ne)

  pub get_gone : map.get (map.remove m k) k ≡ None
  get_gone = get-remove nat_cmp_total m k k ∙ ap (λ b. cond b None (map.get m k)) (tied k)

  pub get_left : (q : ℕ) → (q ≡ k → ⊥) → map.get (map.remove m k) q ≡ map.get m q
  get_left q ne = get-remove nat_cmp_total m k q ∙ ap (λ b. cond b None (map.get m q)) (untied q k ne)
