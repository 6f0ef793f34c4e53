-- What a map of numbers has at a key, after a change.
use Rattle.std.proofs.Common.{◌≡◌, ℕ, ◌≢◌, Bool, cond, Some, None, ap, ◌∙◌, eq-eqb, ne_eqb}
use Rattle.std.specs.Cmp.{nat_cmp_total, unsigned_tied}
use Rattle.std.specs.Ordering.{nat_cmp}
use Rattle.std.specs.FinMap as map

module _ {X : Type 0} where
  pub insert_here : (m : map.FinMap nat_cmp X) (k : ℕ) (v : X) (q : ℕ) → q ≡ k → map.get (map.insert m k v) q ≡ Some v
  insert_here m k v q e = map.get-insert nat_cmp_total m k v q ∙ ap (λ (b : Bool). cond b (Some v) (map.get m q)) (unsigned_tied q k ∙ eq-eqb q k e)

  pub insert_apart : (m : map.FinMap nat_cmp X) (k : ℕ) (v : X) (q : ℕ) → q ≢ k → map.get (map.insert m k v) q ≡ map.get m q
  insert_apart m k v q ne = map.get-insert nat_cmp_total m k v q ∙ ap (λ (b : Bool). cond b (Some v) (map.get m q)) (unsigned_tied q k ∙ ne_eqb q k ne)

  pub remove_here : (m : map.FinMap nat_cmp X) (k q : ℕ) → q ≡ k → map.get (map.remove m k) q ≡ None
  remove_here m k q e = map.get-remove nat_cmp_total m k q ∙ ap (λ (b : Bool). cond b None (map.get m q)) (unsigned_tied q k ∙ eq-eqb q k e)

  pub remove_apart : (m : map.FinMap nat_cmp X) (k q : ℕ) → q ≢ k → map.get (map.remove m k) q ≡ map.get m q
  remove_apart m k q ne = map.get-remove nat_cmp_total m k q ∙ ap (λ (b : Bool). cond b None (map.get m q)) (unsigned_tied q k ∙ ne_eqb q k ne)
